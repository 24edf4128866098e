use Rattle.std.proofs.Common.{◌≡◌}
use Rattle.model.specs.Below.{every}
use Rattle.model.specs.SoundTest.{domain_slotb}
use Rattle.sound_domains.proofs.domains_sound.Given as goal

-- the slots that were walked are as they must be
abbrev pub invariant-loop-k : goal.invariant-loop-k
invariant-loop-k l = l.sound ≡ every l.k (domain_slotb l.p l.tree l.domains)

use Rattle.std.proofs.Common.{◌≡◌}
use Rattle.model.specs.Below.{every}
use Rattle.model.specs.SoundTest.{cpu_slotb}
use Rattle.sound_cpus.proofs.cpus_sound.Given as goal

-- the slots passed are as they must be
abbrev pub invariant-loop-i : goal.invariant-loop-i
invariant-loop-i l = l.sound ≡ every l.i (cpu_slotb l.p l.count l.fn.cpus l.parents l.domains)

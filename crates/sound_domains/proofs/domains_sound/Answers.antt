use Rattle.model.proofs.Below.{every_none, every_next}
use Rattle.model.specs.SoundTest.{domain_slotb}
use Rattle.sound_domains.proofs.domains_sound.Goals as goal

pub loop-k-init : goal.loop-k-init
loop-k-init c = every_none (domain_slotb c.args.p c.args.tree c.args.domains)

pub loop-k-preserved : goal.loop-k-preserved
unfolding domain_slotb
loop-k-preserved c =
    simp (
      c.domain_slot-sound.ensures,
      c.at-copy.ensures,
      c.at-state.ensures,
      c.at-parent.ensures,
      c.minimum_in-minimum.ensures,
    )
    (every_next (domain_slotb c.args.p c.args.tree c.args.domains) c.loop-k.k c.loop-k.invariant)

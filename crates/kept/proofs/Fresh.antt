-- The fresh state is a sound record.
use Prim.Native.Nat.{ℕ}
use mathlib.Core.Bool.{true}
use mathlib.Core.List.{List}
use mathlib.Core.Path.{◌≡◌}
use Rattle.model.proofs.Tables.{length_table}
use Rattle.model.specs.declared.sorts.CpuNumber.{CpuNumber}
use Rattle.model.specs.declared.states.Platform.{Platform}
use Rattle.model.specs.Fresh.{all_off_of, fresh_of}
use Rattle.model.specs.Topology.{boardb}
use Rattle.sound_laws.proofs.Filled.{length_levels}
use Rattle.sound_laws.proofs.Fresh.{fresh_sound}
use Rattle.kept.specs.Lengths.{Lengths, SoundRecord}
use Rattle.kept.proofs.Lengths.{moved_lengths, up_long}

module _ (p : Platform) (primary : CpuNumber) (t : List ℕ) where
  all_off_lengths : Lengths (all_off_of p primary t)
  all_off_lengths = record {
    cpus = length_table _ _ _ _;
    states = length_table _ _ _ _;
    requests = length_levels _ _ _;
    suspends = length_levels _ _ _;
    copies = length_table _ _ _ _;
  }

  pub fresh_kept : boardb p primary t ≡ true → SoundRecord (fresh_of p primary t).state
  unfolding fresh_of
  fresh_kept h = record {
    sound = fresh_sound p primary t h;
    lengths = simp h (moved_lengths _ _ _ _ all_off_lengths (up_long _ _ _ _ _));
  }

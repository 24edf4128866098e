-- A state record as the code holds it.
use Rattle.std.specs.Prelude.{◌≡◌, length}
use Rattle.model.specs.declared.state.State.{State}
use Rattle.model.specs.Limits.{cpu_limit, domain_limit, request_slots}
use Rattle.model.specs.Sound.{Sound}

module _ (s : State) where
  -- the tables have the lengths that their types give them
  pub record Lengths : Type 0 where
    pub cpus : length s.cpus ≡ cpu_limit
    pub states : length s.domains.states ≡ domain_limit
    pub requests : length s.domains.requests ≡ request_slots
    pub suspends : length s.domains.suspends ≡ request_slots
    pub copies : length s.domains.copies ≡ domain_limit

  -- and the record is sound
  pub record SoundRecord : Type 0 where
    pub sound : Sound s
    pub lengths : Lengths

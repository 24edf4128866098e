-- docs/REFERENCE.md, 'The platform and its states'.
use Rattle.std.specs.Prelude.{ℕ, ◌-◌, Bool, true, false, cond, ◌&&◌, leb, ltb, eqb, Ok, Err}
use Rattle.model.specs.Numbers.{Code}
use Rattle.model.specs.declared.code.Refusal.TheVariants as code
use Rattle.model.specs.declared.states.Kind.{Kind}
use Rattle.model.specs.declared.states.Kind.TheVariants as kind
use Rattle.model.specs.declared.states.Platform.{Platform}
use Rattle.model.specs.Limits.{highest_max, state_limit}

-- x is from low to high, both counted
abbrev pub betweenb : ℕ → ℕ → ℕ → Bool
betweenb low x high = leb low x && leb x high

-- RUN is state 0
abbrev pub run : ℕ
run = 0

-- OFF is the last state
abbrev pub off_of : Platform → ℕ
off_of p = p.states - 1

-- MAX is 1 to 3, there are 2 to 16 states, and the first power-down state is from 1 to the last
abbrev pub platformb : Platform → Bool
platformb p =
    betweenb 1 p.max.0 highest_max && betweenb 2 p.states state_limit && betweenb 1 p.down (off_of p)

-- a platform that is not accepted is answered with 101
abbrev pub accept_platform_of : Platform → Code
accept_platform_of p = cond (platformb p) (Ok tt) (Err code.BadBoard)

-- the platform has this state
abbrev pub in_rangeb : Platform → ℕ → Bool
in_rangeb p s = ltb s p.states

-- RUN is the only running state, those below d are retention, d and above are power-down
abbrev pub kind_of : Platform → ℕ → Kind
kind_of p s = cond (eqb s run) kind.Running (cond (ltb s p.down) kind.Retention kind.PowerDown)

-- kinds are ordered running, retention, power-down
abbrev pub depth_of : Kind → ℕ
depth_of kind.Running = 0
depth_of kind.Retention = 1
depth_of kind.PowerDown = 2

-- the first kind is deeper than the second
abbrev pub deeperb : Kind → Kind → Bool
deeperb a b = ltb (depth_of b) (depth_of a)

-- the kind is power-down
abbrev pub power_downb : Kind → Bool
power_downb kind.Running = false
power_downb kind.Retention = false
power_downb kind.PowerDown = true

-- the state is power-down
abbrev pub downb : Platform → ℕ → Bool
downb p s = power_downb (kind_of p s)

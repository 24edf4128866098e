-- docs/REFERENCE.md, 'CPU records'.
use Rattle.std.specs.Prelude.{ℕ, Bool, true, false, Ok, Err, Option, None, Some}
use Rattle.model.specs.declared.code.Refusal.TheVariants as code
use Rattle.model.specs.declared.cpu.AffinityInfo.{AffinityInfo}
use Rattle.model.specs.declared.cpu.AffinityInfo.TheVariants as affinity
use Rattle.model.specs.declared.cpu.CpuPowerNode.{CpuPowerNode}
use Rattle.model.specs.declared.cpu.EntryPoint.{EntryPoint}
use Rattle.model.specs.declared.sorts.DomainNumber.{DomainNumber}
use Rattle.model.specs.Numbers.{Code}

-- the affinity is On
abbrev pub onb : AffinityInfo → Bool
onb affinity.On = true
onb affinity.Off = false
onb affinity.OnPending = false

-- the affinity is Off; OnPending is not
abbrev pub offb : AffinityInfo → Bool
offb affinity.On = false
offb affinity.Off = true
offb affinity.OnPending = false

-- the affinity is OnPending
abbrev pub pendingb : AffinityInfo → Bool
pendingb affinity.On = false
pendingb affinity.Off = false
pendingb affinity.OnPending = true

-- an entry is held
abbrev pub heldb : Option EntryPoint → Bool
heldb None = false
heldb (Some _) = true

-- a new CPU is Off, in state OFF, and holds no entry
abbrev pub new_of : DomainNumber → ℕ → CpuPowerNode
new_of parent off = record {
  parent = parent;
  affinity_info = affinity.Off;
  local_state = off;
  entry_point = None;
}

-- the affinity
abbrev pub affinity_info_of : CpuPowerNode → AffinityInfo
affinity_info_of c = c.affinity_info

-- the record with another affinity
abbrev pub set_affinity_info_of : CpuPowerNode → AffinityInfo → CpuPowerNode
set_affinity_info_of c a = record {
  parent = c.parent;
  affinity_info = a;
  local_state = c.local_state;
  entry_point = c.entry_point;
}

-- the state
abbrev pub local_state_of : CpuPowerNode → ℕ
local_state_of c = c.local_state

-- the record with another state
abbrev pub set_local_state_of : CpuPowerNode → ℕ → CpuPowerNode
set_local_state_of c s = record {
  parent = c.parent;
  affinity_info = c.affinity_info;
  local_state = s;
  entry_point = c.entry_point;
}

-- the record with another entry
abbrev pub with_entry : CpuPowerNode → Option EntryPoint → CpuPowerNode
with_entry c e = record {
  parent = c.parent;
  affinity_info = c.affinity_info;
  local_state = c.local_state;
  entry_point = e;
}

-- what keeping an entry answers, and the record that it leaves: where it is refused, as it was
pub record CpuAnswer : Type 0 where
  pub code : Code
  pub cpu : CpuPowerNode

-- the entry that was taken out, and the record without it
pub record PoppedEntry : Type 0 where
  pub entry : Option EntryPoint
  pub cpu : CpuPowerNode

-- an entry is kept where none is held; over a held one it is 102, and the record as it was
abbrev pub kept_over : Option EntryPoint → CpuPowerNode → EntryPoint → CpuAnswer
kept_over None c e = record { code = Ok tt; cpu = with_entry c (Some e) }
kept_over (Some _) c e = record { code = Err code.NotSound; cpu = c }

abbrev pub set_entry_point_of : CpuPowerNode → EntryPoint → CpuAnswer
set_entry_point_of c = kept_over c.entry_point c

-- the entry is handed out and cleared
abbrev pub pop_entry_point_of : CpuPowerNode → PoppedEntry
pop_entry_point_of c = record { entry = c.entry_point; cpu = with_entry c None }

-- The states that an answer record shows, by the history alone.
use Rattle.std.specs.Prelude.{ℕ, cond, List, leb, ltb}
use Rattle.history.specs.History.{Done}
use Rattle.history.specs.Standing.{standing}
use Rattle.history.specs.Under.{shallowest_of}
use Rattle.model.specs.Topology.{cpus_of, over_of}
use Rattle.model.specs.declared.sorts.CpuNumber.{CpuNumber}
use Rattle.model.specs.declared.states.CompositeState.{CompositeState}
use Rattle.model.specs.declared.states.Platform.{Platform}
use Rattle.script.specs.AnswerRecord.{no_cpu_states}

module _ (p : Platform) (primary : CpuNumber) (t : List ℕ) (h : List Done) where
  abbrev max : ℕ
  max = p.max.0

  -- of the domain of a level over a CPU, the shallowest that the CPUs under it stand for; 0 above MAX
  abbrev pub shown_at : ℕ → ℕ → ℕ
  shown_at c level = cond (leb level max) (shallowest_of p primary t h (over_of t max level c)) 0

  -- from level 0 up the path of a CPU; FFh four times if there is no such CPU
  abbrev pub shown_by : CpuNumber → CompositeState
  shown_by cpu =
      cond (ltb cpu.0 (cpus_of t max))
      (record {
        level0 = standing p primary h cpu.0 0;
        level1 = shown_at cpu.0 1;
        level2 = shown_at cpu.0 2;
        level3 = shown_at cpu.0 3;
      })
      no_cpu_states

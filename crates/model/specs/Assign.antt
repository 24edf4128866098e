-- docs/REFERENCE.md, 'The tree': how the CPU spans are built.
use Rattle.std.specs.Prelude.{ℕ, zero, suc, List, get_or, set}
use Rattle.model.specs.declared.node.Span.{Span}
use Rattle.model.specs.Span.{grown_of}
use Rattle.model.specs.Topology.{parent_of, cpu_node_of}

-- the rows of the spans' starts and ends
pub record SpanRows : Type 0 where
  pub starts : List ℕ
  pub ends : List ℕ

-- the two rows
abbrev pub span_rows : List ℕ → List ℕ → SpanRows
span_rows starts ends = record { starts = starts; ends = ends }

-- the span of a domain
abbrev pub span_in : SpanRows → ℕ → Span
span_in r d = record { start = get_or r.starts d 0; end = get_or r.ends d 0 }

-- a CPU is entered into the span of a domain
abbrev pub entered_of : ℕ → ℕ → SpanRows → SpanRows
entered_of d cpu r =
    span_rows (set r.starts d (grown_of (span_in r d) cpu).start) (set r.ends d (grown_of (span_in r d) cpu).end)

-- a CPU is entered into the span of a domain and, recursively, into every ancestor's, so many levels in all
unfoldable pub assigned_of : ℕ → List ℕ → ℕ → ℕ → SpanRows → SpanRows
assigned_of zero parents d cpu r = r
assigned_of (suc left) parents d cpu r = assigned_of left parents (get_or parents d 0) cpu (entered_of d cpu r)

-- the first n CPUs are entered in turn, each from the domain directly above it
unfoldable pub all_assigned_of : List ℕ → ℕ → List ℕ → ℕ → SpanRows → SpanRows
all_assigned_of t max parents zero r = r
all_assigned_of t max parents (suc n) r =
    assigned_of max parents (parent_of t (cpu_node_of t max n)) n (all_assigned_of t max parents n r)

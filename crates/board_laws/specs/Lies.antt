-- A board that lies in rows, and what a call leaves there.
use Rattle.std.specs.Prelude.{ℕ, cond, List, ◌≡◌, length}
use Rattle.board_calls.specs.Board.{Called, Moded, Turned, count_on, handed_bytes, mode_on, platform_on}
use Rattle.cpu_table.specs.CpuTable.{Lengths, cpus_in}
use Rattle.cpu_table.specs.declared.CpuRows.{CpuRows}
use Rattle.model.specs.Numbers.{acceptedb, number_of}
use Rattle.model.specs.State.{cpu_count_of, platform_at}
use Rattle.model.specs.declared.answer.CallAnswer.{CallAnswer}
use Rattle.model.specs.declared.state.Domains.{Domains}
use Rattle.model.specs.declared.state.State.{State}

-- the rows stand for what the calls read of a state, and have the lengths that their types give them
pub record Lies (s : State) (board parents starts ends : List ℕ) (domains : Domains) (cpus : CpuRows) : Type 0 where
  pub platform : platform_on board ≡ platform_at s
  pub count : count_on board ≡ cpu_count_of s
  pub mode : mode_on board ≡ s.mode
  pub over : parents ≡ s.tree.parents
  pub from : starts ≡ s.tree.cpu_starts
  pub to : ends ≡ s.tree.cpu_ends
  pub rows : domains ≡ s.domains
  pub records : cpus_in cpus ≡ s.cpus
  pub lengths : Lengths cpus
  pub long : length board ≡ 5

-- the answer to a call lies in what the call made: its number is given, its state lies in the rows, its states are handed out if it is accepted
pub record CallLies (a : CallAnswer) (board parents starts ends handed : List ℕ) (x : Called) : Type 0 where
  pub number : x.number ≡ number_of a.code
  pub state : Lies a.state board parents starts ends x.domains x.cpus
  pub states : x.handed ≡ cond (acceptedb a.code) (handed_bytes a.out.states) handed

-- On leaves the domains, and hands nothing out
pub record OnLies (a : CallAnswer) (board parents starts ends : List ℕ) (domains : Domains) (x : Turned) : Type 0 where
  pub number : x.number ≡ number_of a.code
  pub state : Lies a.state board parents starts ends domains x.cpus

-- Set mode leaves the records too
pub record ModeLies (a : CallAnswer) (parents starts ends : List ℕ) (domains : Domains) (cpus : CpuRows) (x : Moded) : Type 0 where
  pub number : x.number ≡ number_of a.code
  pub state : Lies a.state x.board parents starts ends domains cpus

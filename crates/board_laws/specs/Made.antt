-- What each exported call makes of all the rows of a board, in the words of its contract; and what lists of calls make of them.
use Rattle.std.specs.Prelude.{ℕ, Bool, true, false, cond, ◌&&◌, List, [], ◌∷◌, ◌≡◌, ℤ}
use Rattle.board_calls.specs.Board.{call_on, count_on, handed_bytes, mode_on, mode_set, platform_on, tree_on, turn_on}
use Rattle.board_calls.specs.Start.{BoardRows, board_rows}
use Rattle.cpu_table.specs.CpuTable.{all_on_bytes, cpu_in, others_off_bytes}
use Rattle.cpu_table.specs.declared.CpuRows.{CpuRows}
use Rattle.history.specs.History.{Done}
use Rattle.image.specs.Image.{mode_in}
use Rattle.in_place.specs.Stepped.{Outcome, boot_in, finish_in, mode_in as mode_code_in, off_in, on_in, suspend_in, system_suspend_in}
use Rattle.model.specs.Numbers.{acceptedb, number_of}
use Rattle.model.specs.declared.answer.CallAnswer.{CallAnswer}
use Rattle.model.specs.declared.board.Tree.{Tree}
use Rattle.model.specs.declared.call.Call.{Call}
use Rattle.model.specs.declared.call.Call.TheVariants as call
use Rattle.model.specs.declared.cpu.CpuPowerNode.{CpuPowerNode}
use Rattle.model.specs.declared.state.Domains.{Domains}
use Rattle.model.specs.declared.state.State.{State}
use Rattle.model.specs.declared.state.SuspendMode.{SuspendMode}
use Rattle.model.specs.declared.states.Platform.{Platform}
use Rattle.board_laws.specs.Lies.{Lies}

-- a state lies in them
abbrev pub LiesIn : State → BoardRows → Type 0
LiesIn s r = Lies s r.board r.parents r.starts r.ends r.domains r.cpus

-- what comes of a call: its number, all the rows after it, and the row that the platform's states are handed out in
pub record Made : Type 0 where
  pub number : ℤ
  pub rows : BoardRows
  pub handed : List ℕ

module _ (r : BoardRows) where
  -- the tree's rows are as they were
  abbrev pub made_of : ℤ → List ℕ → Domains → CpuRows → List ℕ → Made
  made_of number board domains cpus handed =
      record { number = number; rows = board_rows board r.parents r.starts r.ends domains cpus; handed = handed }

  -- every other CPU is Off
  abbrev pub last_on : ℕ → Bool
  last_on = others_off_bytes r.cpus.affinities (count_on r.board)

  -- all CPUs are On
  abbrev pub all_on : Bool
  all_on = all_on_bytes r.cpus.affinities (count_on r.board)

module _ (r : BoardRows) (handed : List ℕ) where
  -- by a call on a CPU's record and on the domains
  abbrev pub call_made : ℕ → (Tree → Platform → CpuPowerNode → Domains → Outcome) → Made
  call_made c does =
      let x = call_on r.domains r.cpus handed c
      (λ node d. does (tree_on r.board r.parents r.starts r.ends) (platform_on r.board) node d) in
      made_of r x.number r.board x.domains x.cpus x.handed

  -- set mode takes any byte that stands for the mode
  pub record ModeMade (caller : ℕ) (feature : Bool) (wanted : SuspendMode) (x : Made) : Type 0 where
    pub mode : ℕ
    pub stands : mode_in mode ≡ wanted
    pub made :
        let m = mode_set r.board mode
        (mode_code_in (count_on r.board) caller (cpu_in r.cpus caller) feature (mode_on r.board) (mode_in mode) (last_on r caller) (all_on r)) in
        x ≡ made_of r m.number m.board r.domains r.cpus handed

  -- an exported call makes this of the rows
  abbrev pub Makes : Call → Made → Type 0
  Makes (call.On caller target e good answer) x =
      let y = turn_on r.cpus target.0
      (on_in (count_on r.board) caller.0 (cpu_in r.cpus caller.0) target.0 (cpu_in r.cpus target.0) e good answer) in
      x ≡ made_of r y.number r.board r.domains y.cpus handed
  Makes (call.Off caller answer) x = x ≡ call_made caller.0 (λ t p node d. off_in t p caller.0 node d answer)
  Makes (call.Suspend caller pending e asked) x =
      x ≡ call_made caller.0 (λ t p node d. suspend_in t p caller.0 node d (mode_on r.board) pending e asked)
  Makes (call.Finish cpu) x = x ≡ call_made cpu.0 (λ t p node d. finish_in t p cpu.0 node d)
  Makes (call.Boot cpu) x = x ≡ call_made cpu.0 (λ t p node d. boot_in t p cpu.0 node d)
  Makes (call.SystemSuspend caller feature pending good e asked) x =
      x ≡ call_made caller.0
      (λ t p node d. system_suspend_in t p caller.0 node d (mode_on r.board) feature (last_on r caller.0) pending good e asked)
  Makes (call.SetMode caller feature wanted) x = ModeMade caller.0 feature wanted x

-- the call hands states out: all but on and set mode
abbrev pub handsb : Call → Bool
handsb (call.On caller target e good answer) = false
handsb (call.Off caller answer) = true
handsb (call.Suspend caller pending e asked) = true
handsb (call.Finish cpu) = true
handsb (call.Boot cpu) = true
handsb (call.SystemSuspend caller feature pending good e asked) = true
handsb (call.SetMode caller feature wanted) = false

-- the answer to a call lies in what came of it
pub record AnswerLies (handed : List ℕ) (k : Call) (a : CallAnswer) (x : Made) : Type 0 where
  -- its number is given
  pub number : x.number ≡ number_of a.code
  -- its state lies in the rows
  pub state : LiesIn a.state x.rows
  -- its states are handed out if it is accepted, and else that row is as it was
  pub states : x.handed ≡ cond (handsb k && acceptedb a.code) (handed_bytes a.out.states) handed

-- calls that are made one after the other, with the numbers that they give; what was handed out may be overwritten before the next one
pub data Run : BoardRows → List Call → List ℤ → BoardRows → Type 0 where
  none : {r : BoardRows} → Run r [] [] r
  next : {r after : BoardRows} {k : Call} {ks : List Call} {ns : List ℤ} (handed : List ℕ) (x : Made) → Makes r handed k x →
      Run x.rows ks ns after → Run r (k ∷ ks) (x.number ∷ ns) after

-- the numbers of a history
unfoldable pub numbers_of : List Done → List ℤ
numbers_of [] = []
numbers_of (d ∷ ds) = number_of d.code ∷ numbers_of ds

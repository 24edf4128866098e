-- What an exported call promises is what it makes of the rows. The premise of each law is the contract's equation.
use Prim.Native.Nat.{ℕ}
use mathlib.Core.Bool.{Bool}
use mathlib.Core.List.{List}
use mathlib.Core.Path.{◌≡◌, refl, ap}
use lib.IntN.{ℤ}
use Rattle.board_calls.specs.Board.{Called, Moded, Turned, called, call_on, count_on, mode_on, moded, mode_set, platform_on, tree_on, turned, turn_on}
use Rattle.board_calls.specs.Start.{BoardRows}
use Rattle.board_laws.specs.Made.{Makes, all_on, last_on, made_of}
use Rattle.cpu_table.specs.CpuTable.{cpu_in}
use Rattle.cpu_table.specs.declared.CpuRows.{CpuRows}
use Rattle.image.specs.Image.{mode_in}
use Rattle.in_place.specs.Stepped.{boot_in, finish_in, mode_in as mode_code_in, off_in, on_in, suspend_in, system_suspend_in}
use Rattle.model.specs.declared.board.Tree.{Tree}
use Rattle.model.specs.declared.call.Call.TheVariants as call
use Rattle.model.specs.declared.cpu.EntryPoint.{EntryPoint}
use Rattle.model.specs.declared.state.Domains.{Domains}
use Rattle.model.specs.declared.states.CompositeState.{CompositeState}
use Rattle.model.specs.declared.states.Platform.{Platform}

-- the tree and the platform that a call reads of the rows
module _ (r : BoardRows) where
  abbrev tree : Tree
  tree = tree_on r.board r.parents r.starts r.ends

  abbrev platform : Platform
  platform = platform_on r.board

module _ (r : BoardRows) (handed : List ℕ) (c : ℕ) {n : ℤ} where
  module _ {d : Domains} {cpus : CpuRows} {after : List ℕ} where
    -- a call on a CPU's record and on the domains
    call_made_lem : (y : Called) → called n d cpus after ≡ y →
        made_of r n r.board d cpus after ≡ made_of r y.number r.board y.domains y.cpus y.handed
    call_made_lem y = ap (λ (x : Called). made_of r x.number r.board x.domains x.cpus x.handed)

    -- Off
    pub off_made : (answer : ℕ) →
        called n d cpus after ≡ call_on r.domains r.cpus handed c (λ node d. off_in (tree r) (platform r) c node d answer) →
        Makes r handed (call.Off (record { 0 = c }) answer) (made_of r n r.board d cpus after)
    off_made answer = call_made_lem _

    -- Suspend
    pub suspend_made : (pending : Bool) (e : EntryPoint) (asked : CompositeState) →
        called n d cpus after
        ≡ call_on r.domains r.cpus handed c (λ node d. suspend_in (tree r) (platform r) c node d (mode_on r.board) pending e asked) →
        Makes r handed (call.Suspend (record { 0 = c }) pending e asked) (made_of r n r.board d cpus after)
    suspend_made pending e asked = call_made_lem _

    -- Finish
    pub finish_made :
        called n d cpus after ≡ call_on r.domains r.cpus handed c (λ node d. finish_in (tree r) (platform r) c node d) →
        Makes r handed (call.Finish (record { 0 = c })) (made_of r n r.board d cpus after)
    finish_made = call_made_lem _

    -- Boot
    pub boot_made :
        called n d cpus after ≡ call_on r.domains r.cpus handed c (λ node d. boot_in (tree r) (platform r) c node d) →
        Makes r handed (call.Boot (record { 0 = c })) (made_of r n r.board d cpus after)
    boot_made = call_made_lem _

    -- System suspend
    pub system_suspend_made : (feature pending good : Bool) (e : EntryPoint) (asked : CompositeState) →
        called n d cpus after
        ≡ call_on r.domains r.cpus handed c
        (λ node d. system_suspend_in (tree r) (platform r) c node d (mode_on r.board) feature (last_on r c) pending good e asked) →
        Makes r handed (call.SystemSuspend (record { 0 = c }) feature pending good e asked) (made_of r n r.board d cpus after)
    system_suspend_made feature pending good e asked = call_made_lem _

  -- On
  pub on_made : {cpus : CpuRows} (target : ℕ) (e : EntryPoint) (good : Bool) (answer : ℕ) →
      turned n cpus
      ≡ turn_on r.cpus target (on_in (count_on r.board) c (cpu_in r.cpus c) target (cpu_in r.cpus target) e good answer) →
      Makes r handed (call.On (record { 0 = c }) (record { 0 = target }) e good answer) (made_of r n r.board r.domains cpus handed)
  on_made target e good answer = ap (λ (x : Turned). made_of r x.number r.board r.domains x.cpus handed)

  -- Set mode
  pub set_mode_made : {board : List ℕ} (feature : Bool) (mode : ℕ) →
      moded n board
      ≡ mode_set r.board mode
      (mode_code_in (count_on r.board) c (cpu_in r.cpus c) feature (mode_on r.board) (mode_in mode) (last_on r c) (all_on r)) →
      Makes r handed (call.SetMode (record { 0 = c }) feature (mode_in mode)) (made_of r n board r.domains r.cpus handed)
  set_mode_made feature mode e = record {
    mode = mode;
    stands = refl;
    made = ap (λ (x : Moded). made_of r x.number x.board r.domains r.cpus handed) e;
  }

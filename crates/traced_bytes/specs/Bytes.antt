-- docs/REFERENCE.md, 'A request and its reply': what goes out, in bytes.
use Rattle.std.specs.Prelude.{ℕ, ◌-◌, Bool, cond, List, [], ◌∷◌, ◌++◌, ltb, get_or, Option, None, Some}
use Rattle.model.specs.Composite.{states_of}
use Rattle.model.specs.Numbers.{Code, number_of}
use Rattle.model.specs.declared.answer.CallAnswer.{CallAnswer}
use Rattle.model.specs.declared.answer.Notice.{Notice}
use Rattle.model.specs.declared.answer.Notice.TheVariants as notice
use Rattle.model.specs.declared.answer.Notices.{Notices}
use Rattle.model.specs.declared.answer.WakeUpReason.{WakeUpReason}
use Rattle.model.specs.declared.answer.WakeUpReason.TheVariants as wake
use Rattle.model.specs.declared.board.Board.{Board}
use Rattle.model.specs.declared.board.Tree.{Tree}
use Rattle.model.specs.declared.cpu.AffinityInfo.{AffinityInfo}
use Rattle.model.specs.declared.cpu.AffinityInfo.TheVariants as affinity
use Rattle.model.specs.declared.cpu.CpuPowerNode.{CpuPowerNode}
use Rattle.model.specs.declared.cpu.EntryPoint.{EntryPoint}
use Rattle.model.specs.declared.state.SuspendMode.{SuspendMode}
use Rattle.model.specs.declared.state.SuspendMode.TheVariants as mode
use Rattle.script.specs.Bytes.{byte_at, bytes_of, signed_byte_of}

-- the byte of a code, with its sign
abbrev pub code_byte : Code → ℕ
code_byte k = signed_byte_of (number_of k)

abbrev pub flag_byte : Bool → ℕ
flag_byte b = cond b 1 0

abbrev pub wake_byte : Option WakeUpReason → ℕ
wake_byte None = 0
wake_byte (Some wake.CpuOn) = 1
wake_byte (Some wake.SuspendFinished) = 2

abbrev pub affinity_byte : AffinityInfo → ℕ
affinity_byte affinity.On = 0
affinity_byte affinity.Off = 1
affinity_byte affinity.OnPending = 2

abbrev pub mode_byte : SuspendMode → ℕ
mode_byte mode.PlatformCoordinated = 0
mode_byte mode.OsInitiated = 1

-- a first byte, and after it address and context, eight bytes each
abbrev pub point_bytes : ℕ → EntryPoint → List ℕ
point_bytes first e = first ∷ bytes_of 8 e.address ++ bytes_of 8 e.context

-- an entry in 17 bytes: whether it is held, its address and its context
abbrev pub entry_byte : Option EntryPoint → ℕ → ℕ
entry_byte None i = 0
entry_byte (Some e) i = byte_at (point_bytes 1 e) i

-- a CPU in 20 bytes: parent, affinity, state, and its entry
abbrev pub cpu_byte : CpuPowerNode → ℕ → ℕ
cpu_byte c i =
    cond (ltb i 3) (byte_at (c.parent.0 ∷ affinity_byte c.affinity_info ∷ c.local_state ∷ []) i)
    (entry_byte c.entry_point (i - 3))

-- a notice: its kind, and what it carries
abbrev pub notice_bytes : Option Notice → List ℕ
notice_bytes None = []
notice_bytes (Some notice.SpmToldOff) = 1 ∷ []
notice_bytes (Some (notice.SpmToldSuspend e)) = point_bytes 2 e
notice_bytes (Some (notice.SpmToldSystemSuspend e)) = point_bytes 3 e
notice_bytes (Some notice.SpmNotifiedOff) = 4 ∷ []
notice_bytes (Some notice.SpmAbandon) = 5 ∷ []
notice_bytes (Some (notice.CorePowerDown level)) = 6 ∷ level.0 ∷ []
notice_bytes (Some (notice.PlatformOff c)) = 7 ∷ states_of c
notice_bytes (Some (notice.PlatformSuspend c)) = 8 ∷ states_of c
notice_bytes (Some (notice.PlatformPowerDown c)) = 9 ∷ states_of c
notice_bytes (Some (notice.SuspendFinish c)) = 10 ∷ states_of c
notice_bytes (Some (notice.OnFinish c)) = 11 ∷ states_of c

-- the notices in order
abbrev pub notice_at : Notices → ℕ → Option Notice
notice_at n k = get_or (n.first ∷ n.second ∷ n.third ∷ n.fourth ∷ n.fifth ∷ []) k None

-- the code, whether a suspend was not entered, and which wake it was
abbrev pub head_byte : CallAnswer → ℕ → ℕ
head_byte a i = byte_at (code_byte a.code ∷ flag_byte a.out.not_entered ∷ wake_byte a.out.wake ∷ []) i

-- MAX, states, first power-down state, primary
abbrev pub board_byte : Board → ℕ → ℕ
board_byte b i = byte_at (b.platform.max.0 ∷ b.platform.states ∷ b.platform.down ∷ b.primary.0 ∷ []) i

-- how many domains, how many CPUs
abbrev pub counts_byte : Tree → ℕ → ℕ
counts_byte t i = byte_at (t.domain_count ∷ t.cpu_count ∷ []) i

-- What the functions of a run promise: read this after `Whole` of `answers`.
use Rattle.std.specs.Prelude.{◌≡◌, Bool, true, false, List, [], ◌∷◌, ◌++◌, ℕ, ◌+◌, ◌≤◌, length, take, eqb, Result, Ok, Err}
use Rattle.trace.specs.declared.refusal.Refusal.{Refusal}
use Rattle.table.specs.Node.{◌▸◌}
use Rattle.logic.specs.Written.{Written, spelled_out}
use Rattle.translate.specs.Emitted.{emitted}
use Rattle.formula_lines.specs.Spelling.{formula_line}
use Rattle.text.specs.Reading.{Takes}
use Rattle.formula_lines.specs.FormulaAnswer.{formula_limits}
use Rattle.printing.specs.Printed.{table_text, refused_text}
use Rattle.printing.specs.Limits.{most_first, most_later}
use Rattle.answers.specs.Input.{ended_lines, open_line}
use Rattle.answers.specs.Whole.{PrintsTraces, Runs}
use Rattle.answers.specs.Inner.{kept_bytes, TablesOf}
use Rattle.line_one.specs.Inner.{FirstAnswer}
use Rattle.run.specs.Bounds.{most_block, most_lines}
use Rattle.run.specs.Later.{LaterDone}
use Rattle.run.specs.declared.NotTaken.{NotTaken}
use Rattle.run.specs.declared.Stage.{Stage}
use Rattle.run.specs.declared.Stage.TheVariants.{First, Later, Ended}
use Rattle.run.specs.declared.Run.{Run}

-- ── Where a run stands between two bytes of its input ──

abbrev pub Starts : Run → Type 0
Starts s = (s.stage ≡ First) × (s.number ≡ 1) × (s.line.items ≡ []) × (s.out.items ≡ [])

-- Whether more of the input can change the output.
abbrev pub goes : Stage → Bool
goes First = true
goes (Later t) = true
goes Ended = false

abbrev pub goes_on : Run → Bool
goes_on s = goes s.stage

-- Whether no line is open: line 1 has ended and was not refused, and no byte of a further line was taken.
abbrev pub none_open_in : Stage → List ℕ → Bool
none_open_in First o = false
none_open_in (Later t) o = eqb (length o) 0
none_open_in Ended o = false

abbrev pub none_open : Run → Bool
none_open s = none_open_in s.stage s.line.items

-- What the last block printed.
abbrev pub gathered : Run → List ℕ
gathered s = s.out.items

-- The tables of a formula are stored.
abbrev pub Stores : Written → Stage → Type 0
Stores f First = ⊥
Stores f (Later t) = TablesOf f t.psl.items t.ltl.items
Stores f Ended = ⊥

-- The lines that have ended printed `out`; the tables of the first are stored.
abbrev pub PrintedSoFar : List (List ℕ) → List ℕ → Stage → Type 0
PrintedSoFar [] out stage = (stage ≡ First) × (out ≡ [])
PrintedSoFar (line ∷ ls) out stage =
    (f : Written) × (rest : List ℕ) × Takes formula_line formula_limits line f × Stores f stage × (out ≡ table_text (emitted (spelled_out f)) ++ rest)
    × PrintsTraces (spelled_out f) 1 ls rest

-- The run goes on: the bytes `read` have been taken, and the lines that ended in them printed `out`.
pub record Going (read out : List ℕ) (s : Run) : Type 0 where
  pub counted : s.number ≡ 1 + length (ended_lines read)
  pub kept : s.line.items ≡ take kept_bytes (open_line read)
  pub printed : PrintedSoFar (ended_lines read) out s.stage

-- The same, or the run is over: whatever follows the bytes `read`, `out` is the whole output.
pub record GoingOrOver (read out : List ℕ) (s : Run) : Type 0 where
  pub going : goes_on s ≡ true → Going read out s
  pub over : goes_on s ≡ false → (rest : List ℕ) → Runs (read ++ rest) out

-- ── What the functions of the stream do ──

-- At most `most` bytes are gathered, and none before line 1 is answered.
pub record Gathered (most : ℕ) (s : Run) : Type 0 where
  pub few : length s.out.items ≤ most
  pub first : s.stage ≡ First → s.out.items ≡ []

-- Line 1 is answered: its text is gathered, and the tables of its formula are stored, or the run is over.
abbrev pub FirstDone : List ℕ → Stage → List ℕ → Type 0
FirstDone line First out = ⊥
FirstDone line (Later t) out = FirstAnswer line (Ok t) × (out ≡ table_text t.ltl.items)
FirstDone line Ended out = (x : Refusal) × FirstAnswer line (Err x) × (out ≡ refused_text 1 x)

-- The open line is answered, by the stage that it ends.
abbrev pub AnsweredIn : Stage → Run → Run → Type 0
AnsweredIn First s r = FirstDone s.line.items r.stage r.out.items × (length r.out.items ≤ most_first)
AnsweredIn (Later t) s r = LaterDone s.line.items t s.number s.out.items r.out.items × (r.stage ≡ s.stage)
AnsweredIn Ended s r = Unit {0}

pub record Answered (s r : Run) : Type 0 where
  pub number : r.number ≡ s.number
  pub line : r.line.items ≡ s.line.items
  pub done : AnsweredIn s.stage s r

-- The open line ends: byte 10 is taken, and the answer's text is gathered.
pub record LineDone (s r : Run) : Type 0 where
  pub number : r.number ≡ s.number + 1
  pub short : (k : ℕ) → length s.out.items ≤ most_first + k → length r.out.items ≤ most_first + (k + most_later)
  pub later : r.stage ≡ First → ⊥
  pub tells : (read done : List ℕ) → Going read (done ++ s.out.items) s → GoingOrOver (read ▸ 10) (done ++ r.out.items) r

-- A byte of a line is kept, where there is room.
pub record Kept (b : ℕ) (s r : Run) : Type 0 where
  pub stage : r.stage ≡ s.stage
  pub number : r.number ≡ s.number
  pub line : r.line.items ≡ take kept_bytes (s.line.items ▸ b)
  pub out : r.out.items ≡ s.out.items

-- All bytes of a block are taken, or the run is over.
abbrev pub Fed : List ℕ → Run → Run → Type 0
Fed block s r = (read done : List ℕ) → Going read done s → GoingOrOver (read ++ block) (done ++ r.out.items) r

-- The input ends: the bytes gathered then are the rest of the output.
abbrev pub Finished : Run → Run → Type 0
Finished s r = (read done : List ℕ) → Going read done s → Runs read (done ++ r.out.items)

-- The input ended after a run's bytes `read`, or its first line was refused in the block: in both cases `out` is the whole output.
abbrev pub Ends : List ℕ → List ℕ → List ℕ → Type 0
Ends read [] out = Runs read out
Ends read (b ∷ block) out = (rest : List ℕ) → Runs (read ++ ((b ∷ block) ++ rest)) out

-- A block of input is taken, the empty one being the input's end, and prints `out`.
pub record Advanced (block : List ℕ) (s r : Run) (out : List ℕ) : Type 0 where
  pub goes : goes_on r ≡ true → (read done : List ℕ) → Going read done s → Going (read ++ block) (done ++ out) r
  pub ends : goes_on r ≡ false → (read done : List ℕ) → Going read done s → Ends read block (done ++ out)

-- A block can be taken: it is not too long, the run goes on, and the lines are counted to the block's end.
pub record Ready (block : List ℕ) (s : Run) : Type 0 where
  pub short : length block ≤ most_block
  pub counted : s.number + most_block ≤ most_lines
  pub more : goes_on s ≡ true

abbrev pub Accepts : List ℕ → Run → Result (Unit {0}) NotTaken → Type 0
Accepts block s (Ok u) = Ready block s
Accepts block s (Err x) = Ready block s → ⊥

-- A block is taken exactly where it can be; else the run is left as it was.
abbrev pub Taken : List ℕ → Run → Run → Result (Unit {0}) NotTaken → Type 0
Taken block s r (Ok u) = Ready block s × Advanced block s r (gathered r)
Taken block s r (Err x) = (Ready block s → ⊥) × (r ≡ s)

-- Turns from the start on: the blocks that were taken, one after another, and the bytes that each printed.
pub data Turns : List ℕ → List ℕ → Run → Type 0 where
  no_turn : {s : Run} → Starts s → Turns [] [] s
  one_turn : {read done block out : List ℕ} {s r : Run} → Turns read done s → Advanced block s r out → goes_on r ≡ true → Turns (read ++ block) (done ++ out) r

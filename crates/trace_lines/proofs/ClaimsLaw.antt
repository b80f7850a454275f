-- The statements of `Claims`.
use mathlib.Core.Path.{◌≡◌, ap, sym, ◌∙◌}
use mathlib.Core.List.{List}
use Prim.Native.Nat.{ℕ}
use lib.ListN.{length}
use Rattle.text.specs.Limits.{front}
use Rattle.text.proofs.ReadingLaw.{taken_alone, not_both, refused_alone, refused_place}
use Rattle.trace_lines.specs.Claims.{Claims}
use Rattle.trace_lines.specs.Spelling.{TraceLists, line_of_trace}
use Rattle.trace_lines.specs.TraceAnswer.{trace_refusal, TraceAnswer}
use Rattle.trace.specs.declared.refusal.Refusal.{Refusal}
use Rattle.std.specs.Prelude.{Result, Ok, Err}
use Rattle.trace_lines.specs.declared.Lengths.{Lengths}
use Rattle.trace_lines.proofs.TraceLaw.{trace_alone}
use Rattle.trace_lines.proofs.LimitsLaw.{refusal-unplaced}

abbrev lengths : ℕ → ℕ → Lengths
lengths a b = record { lead = a; cycle = b }

trace_answer : (s k l : List ℕ) (r r' : Result Lengths Refusal) (m m' n n' : List ℕ) → TraceAnswer s k l r m n → TraceAnswer s k l r' m' n' → (r ≡ r') × (m ≡ m') × (n ≡ n')
trace_answer s k l (Ok a) (Ok b) m m' n n' (t, x, p, q, i, j) (u, y, p', q', i', j') =
    let d = taken_alone line_of_trace trace_alone (trace_refusal (length k) (length l)) x y in
    let v : a.lead ≡ b.lead = p ∙ ap (λ (z : TraceLists). length z.lead) d ∙ sym p' in
    let w : a.cycle ≡ b.cycle = q ∙ ap (λ (z : TraceLists). length z.loop) d ∙ sym q' in
    (ap (λ (z : Lengths). Ok z) (ap (λ (z : ℕ). lengths z a.cycle) v ∙ ap (lengths b.lead) w), i ∙ ap (λ (z : TraceLists). front z.lead k) d ∙ sym i', j ∙ ap (λ (z : TraceLists). front z.loop l) d ∙ sym j')
trace_answer s k l (Ok a) (Err e) m m' n n' (t, x, _, _, _, _) (y, _, _) =
    absurd (not_both line_of_trace trace_alone (trace_refusal (length k) (length l)) x y)
trace_answer s k l (Err e) (Ok a) m m' n n' (y, _, _) (t, x, _, _, _, _) =
    absurd (not_both line_of_trace trace_alone (trace_refusal (length k) (length l)) x y)
trace_answer s k l (Err e) (Err e') m m' n n' (x, p, q) (y, p', q') =
    (ap (λ (z : Refusal). Err z) (refused_alone line_of_trace trace_alone (trace_refusal (length k) (length l)) x y), p ∙ sym p', q ∙ sym q')

pub claims : Claims
claims = record { one_trace = trace_alone; placed = λ s k l m n e p a h. let (_, q, b) = refused_place (λ t. refusal-unplaced t (length k) (length l)) a.0 p h in (q, b); trace_answer = trace_answer }

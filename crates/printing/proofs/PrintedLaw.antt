-- What each writer of an answer's text gives.
use Rattle.std.specs.Prelude.{Bool, true, false, Option as Maybe, None, Some, Result, Ok, Err}
use mathlib.Core.Path.{◌≡◌, refl, ap, sym, subst, ◌∙◌}
use mathlib.Core.List.{List, [], ◌∷◌, ◌++◌, append_assoc, append-nil}
use mathlib.Core.Option.{none}
use Prim.Native.Nat.{ℕ, zero, suc, ◌+◌, ◌*◌, ◌^◌, ◌<◌, ◌≤◌}
use native.Mathlib.Omega.{arith}
use native.Mathlib.Decide.{dec_lt}
use native.Mathlib.Numerals.{add-one}
use lib.ListN.{get_or, length, take, length-append, length-take}
use Rattle.trace.specs.declared.refusal.Refusal.{Refusal}
use Rattle.trace.specs.Refusal.{number, place}
use Rattle.trace.proofs.ToldLaw.{number_small}
use Rattle.table.specs.Node.{count, kind_at, left_at, right_at, node_at}
use Rattle.table.specs.Rules.{Use, unused, signal, operand, shape_of}
use Rattle.table.specs.Inner.Place.{bound}
use Rattle.table.proofs.CheckLaw.{left-fits, right_fits}
use Rattle.ltl.specs.Check.{ltl_rules, ltl_refusal}
use Rattle.ltl.proofs.AcceptedLaw.{most-nodes}
use Rattle.text.specs.Text.{text}
use Rattle.text.specs.Spelling.{digits, ending, brackets}
use Rattle.node_lines.specs.Spelling.{node_line}
use Rattle.text.proofs.NumberLaw.{digits-short}
use Rattle.node_lines.proofs.WriterLaw.{line_length}
use Rattle.printing.specs.Printed.{place_part, refused_text, verdict_text, trace_text, node_lines, table_text}
use Rattle.printing.specs.Inner.{TablePut}
use Rattle.printing.specs.Limits.{most_first, most_later, longest_verdict}

-- A line's end, the place in front of it.
abbrev pub end_of : Maybe ℕ → List ℕ
end_of p = ending (place_part p) ++ text "\n"

end_short : (o : Maybe ℕ) → ((p : ℕ) → o ≡ Some p → p < 2 ^ 64) → length (end_of o) ≤ 23
end_short None h = omega arith
end_short (Some p) h = simp length-append (omega (arith, digits-short 19 p (omega (arith, h p refl))))

refused-bytes : (line : ℕ) (x : Refusal) → refused_text line x ≡ text "(refused " ++ (digits line ++ (text " " ++ (digits (number x) ++ end_of (place x))))
unfolding refused_text
refused-bytes line x = simp append_assoc

pub refused-short : (line : ℕ) (x : Refusal) → line < 2 ^ 64 → ((p : ℕ) → place x ≡ Some p → p < 2 ^ 64) → length (refused_text line x) ≤ most_later
refused-short line x h g =
    subst (λ (w : List ℕ). length w ≤ most_later) (sym (refused-bytes line x))
    (omega (
      arith,
      length-append (text "(refused ") (digits line ++ (text " " ++ (digits (number x) ++ end_of (place x)))),
      length-append (digits line) (text " " ++ (digits (number x) ++ end_of (place x))),
      length-append (text " ") (digits (number x) ++ end_of (place x)),
      length-append (digits (number x)) (end_of (place x)),
      digits-short 19 line (omega arith),
      digits-short 2 (number x) (omega (arith, number_small x)),
      end_short (place x) g,
    ))

pub verdict_short : (v : Result Bool Refusal) → length (verdict_text v) ≤ longest_verdict
unfolding verdict_text
verdict_short (Ok true) = omega arith
verdict_short (Ok false) = omega arith
verdict_short (Err x) = omega arith

trace-bytes : (i : ℕ) (v w : Result Bool Refusal)
    → trace_text i v w ≡ text "(trace " ++ (digits i ++ (text " psl " ++ (verdict_text v ++ (text " ltl " ++ (verdict_text w ++ text ")\n")))))
unfolding trace_text
trace-bytes i v w = simp append_assoc

pub trace-short : (i : ℕ) (v w : Result Bool Refusal) → i < 2 ^ 64 → length (trace_text i v w) ≤ most_later
trace-short i v w h =
    subst (λ (y : List ℕ). length y ≤ most_later) (sym (trace-bytes i v w))
    (simp length-append (omega (arith, digits-short 19 i (omega arith), verdict_short v, verdict_short w)))

-- ── Tables ──

abbrev table_head : List ℕ → List ℕ
table_head t = brackets (text "ltl" ∷ digits (count t) ∷ []) ++ text "\n"

-- The head and the lines of the first i nodes were put.
abbrev pub Printed : {S : Type 0} → (S → List ℕ → S → Type 0) → List ℕ → S → ℕ → S → Type 0
Printed Put t a i b = Put a (table_head t ++ node_lines t i) b

-- Whatever texts are put into.
module _ {S : Type 0} (Put : S → List ℕ → S → Type 0) (join : (a b c : S) (v w : List ℕ) → Put a v b → Put b w c → Put a (v ++ w) c) where
  pub place_put : (p : ℕ) {a b c d : S} → Put a (text " ") b → Put b (digits p) c → Put c (text ")\n") d → Put a (end_of (Some p)) d
  place_put p {a} {d = z} q r s =
      let e : end_of (Some p) ≡ text " " ++ (digits p ++ text ")\n") = simp append_assoc in
      subst (λ (w : List ℕ). Put a w z) (sym e) (join _ _ _ _ _ q (join _ _ _ _ _ r s))

  pub refused_put : (line : ℕ) (x : Refusal) {a b c d e f : S} → Put a (text "(refused ") b → Put b (digits line) c → Put c (text " ") d → Put d (digits (number x)) e
      → Put e (end_of (place x)) f → Put a (refused_text line x) f
  refused_put line x {a} {f = z} p q r s t =
      subst (λ (w : List ℕ). Put a w z) (sym (refused-bytes line x)) (join _ _ _ _ _ p (join _ _ _ _ _ q (join _ _ _ _ _ r (join _ _ _ _ _ s t))))

  pub trace_put : (i : ℕ) (v w : Result Bool Refusal) {a b c d e f g h : S} → Put a (text "(trace ") b → Put b (digits i) c → Put c (text " psl ") d → Put d (verdict_text v) e
      → Put e (text " ltl ") f → Put f (verdict_text w) g → Put g (text ")\n") h → Put a (trace_text i v w) h
  trace_put i v w {a} {h = z} p q r s t u x =
      subst (λ (w : List ℕ). Put a w z) (sym (trace-bytes i v w))
      (join _ _ _ _ _ p (join _ _ _ _ _ q (join _ _ _ _ _ r (join _ _ _ _ _ s (join _ _ _ _ _ t (join _ _ _ _ _ u x))))))

  pub head_put : (t : List ℕ) {a b c d : S} → Put a (text "(ltl ") b → Put b (digits (count t)) c → Put c (text ")\n") d → Printed Put t a 0 d
  unfolding node_lines
  head_put t {a} {d = z} p q r =
      let e : table_head t ++ [] ≡ text "(ltl " ++ (digits (count t) ++ text ")\n") = simp (append_assoc, append-nil) in
      subst (λ (w : List ℕ). Put a w z) (sym e) (join _ _ _ _ _ p (join _ _ _ _ _ q r))

  -- A node more.
  pub node_put : (t : List ℕ) (i : ℕ) {a b c : S} → Printed Put t a i b → Put b (node_line i (node_at t i)) c → Printed Put t a (i + 1) c
  unfolding node_lines
  node_put t i {a} {b} {c} p q =
      let e : table_head t ++ node_lines t (i + 1) ≡ (table_head t ++ node_lines t i) ++ node_line i (node_at t i) =
      ap (λ (n : ℕ). table_head t ++ node_lines t n) (add-one i) ∙ sym (append_assoc (table_head t) (node_lines t i) _) in
      subst (λ (w : List ℕ). Put a w c) (sym e) (join _ _ _ _ _ p q)

  pub all_put : (t : List ℕ) {a b : S} → Printed Put t a (count t) b → Put a (table_text t) b
  unfolding table_text
  all_put t p = p

-- A vector has at most so many bytes more after the writer of a table.
pub table_bound : {S : Type 0} (items : S → List ℕ) (n : ℕ) (t : List ℕ) {a b : S} → TablePut (λ x w y. items y ≡ take n (items x ++ w)) t a b
    → length (items b) ≤ length (items a) + most_first
table_bound items n t {a} {b} p = go (dec_lt ltl_rules.most (count t))
  where
    go : Dec (ltl_rules.most < count t) → length (items b) ≤ length (items a) + most_first
    go (yes h) = omega (arith, ap length (ap items (p.none h)))
    go (no h) = omega (arith, ap length (p.table (omega arith)), length-take n (items a ++ table_text t), length-append (items a) (table_text t), p.short (omega arith))

-- A table whose lines have at most 26 bytes each.
module _ (t : List ℕ) (few : count t ≤ ltl_rules.most) (one : (k : ℕ) → k < count t → length (node_line k (node_at t k)) ≤ 26) where
  lines_short : (k : ℕ) → k ≤ count t → length (node_lines t k) ≤ 26 * k
  unfolding node_lines
  lines_short zero h = omega arith
  lines_short (suc k) h = omega (arith, length-append (node_lines t k) (node_line k (node_at t k)), lines_short k (omega arith), one k h)

  text_short : length (table_text t) ≤ most_first
  unfolding table_text
  text_short = simp length-append (omega (arith, digits-short 3 (count t) (omega arith), lines_short (count t) (omega arith)))

-- So are those of a table of numbers of 16 bits, and of an accepted one.
pub text_of_numbers : (t : List ℕ) → ((i : ℕ) → get_or t i 0 < 65536) → count t ≤ ltl_rules.most → length (table_text t) ≤ most_first
text_of_numbers t small few =
    text_short t few (λ k h. line_length k (kind_at t k) (left_at t k) (right_at t k) (omega arith) (small (3 * k + 1)) (small (3 * k + 2)))

low_small : (u : Use) (i : ℕ) → i < 65536 → bound u i ≤ 65536
low_small unused i h = omega arith
low_small signal i h = omega arith
low_small (operand b) i h = omega arith

module _ (t : List ℕ) (fine : ltl_refusal t ≡ none) where
  accepted_line : (k : ℕ) → k < count t → length (node_line k (node_at t k)) ≤ 26
  accepted_line k h =
      let few = most-nodes t fine in
      let left = (left-fits ltl_rules t fine k h (kind_at t k) refl).low in
      let right = (right_fits ltl_rules t fine k h (kind_at t k) refl).low in
      let (p, q) = shape_of ltl_rules (kind_at t k) in
      line_length k (kind_at t k) (left_at t k) (right_at t k) (omega arith) (omega (arith, left, low_small p k (omega arith))) (omega (arith, right, low_small q k (omega arith)))

  pub table-short : length (table_text t) ≤ most_first
  table-short = text_short t (most-nodes t fine) accepted_line

-- What each way out of the reader of a formula line gives, in terms of how formulas are spelled.
use mathlib.Core.Path.{◌≡◌, refl, ap, sym, subst, ◌∙◌}
use mathlib.Core.Bool.{Bool, true, false}
use mathlib.Core.Option.{none, some}
use mathlib.Core.List.{List, [], ◌∷◌, ◌++◌, append_assoc, append-nil, append_cancel_left}
use Prim.Native.Nat.{ℕ, suc, ◌*◌, ◌<◌, ◌≤◌}
use native.Mathlib.Omega.{arith}
use borrow.Author.Tests.{lt-leb, le-leb}
use lib.ListN.{length, take, drop}
use lib.Seq.{sets, drop-length}
use lib.Dec.{leb}
use Rattle.table.specs.Node.{Node, numbers_of}
use Rattle.table.proofs.NodeLaw.{length-numbers}
use Rattle.logic.specs.Formula.{btrue}
use Rattle.logic.specs.Written.{Written, Weak}
use Rattle.std.specs.Prelude.{Ok, Err}
use Rattle.trace.specs.declared.refusal.Refusal.{Refusal}
use Rattle.trace.specs.declared.refusal.Refusal.TheVariants.{LongLine, Shape, ManyNodes, LargeSignal, ListRoom}
use Rattle.psl.specs.Check.{psl_rules}
use Rattle.text.specs.Text.{text}
use Rattle.formula_lines.specs.Spelling.{spell, formula_line}
use Rattle.text.specs.Limits.{most_bytes}
use Rattle.text.specs.Reading.{long, breaks, spells}
use Rattle.formula_lines.specs.FormulaAnswer.{table_nodes, formula_limits, formula_refusal, FormulaAnswer}
use Rattle.text.specs.Inner.Places.{Stands, Agree, Begins, Stops, StopsLine, Only}
use Rattle.formula_lines.specs.Inner.Form.{Form, Sorted, bytes, nodes_from, wide}
use Rattle.formula_lines.specs.Inner.Writes.{Writes}
use Rattle.formula_lines.specs.Inner.Reader.{FormOf, FormStands, SpellsFormula, WholeStands}
use Rattle.text.proofs.PlaceLaw.{stands_join, halts-first, begins-first, halts-after, stops_line, Nothing, stops_end}
use Rattle.text.proofs.ReadingLaw.{breaks-at, front-sets, front-take}
use Rattle.formula_lines.proofs.FormulaLaw.{form, form-sorted, form-bytes, as_written, spell_unique, line_unique}
use Rattle.formula_lines.proofs.ClosingLaw.{written_closing, wide_large}

-- ── The parts of the line ──

-- What follows the word `psl`.
abbrev Rest : List ℕ → Type 0
Rest w = (f : Written) × (w ≡ spell f ++ (41 ∷ []))

abbrev Psl : List ℕ → ℕ → Type 0
Psl s = Stands (text "(psl ") s 0

pub not-psl : {s : List ℕ} {p : ℕ} → Stops (λ w. w ≡ text "(psl ") s 0 p → StopsLine SpellsFormula s 0 p
not-psl a =
    stops_line (halts-first a (λ w e. (spell some ++ (41 ∷ []), (some, ap (λ (x : List ℕ). x ++ (spell some ++ (41 ∷ []))) e)))
    (λ s' g. begins-first (λ w (f, e). (text "(psl ", spell f ++ (41 ∷ []), refl, e))))
  where
    some : Written
    some = Weak btrue

module _ {s : List ℕ} {start : ℕ} (o : Psl s start) where
  pub no-form : {p : ℕ} → Stops (FormOf 1) s start p → StopsLine SpellsFormula s 0 p
  no-form {p} a = halts-after o (stops_line (halts-first {L = Rest} a inc (λ s' g. begins-first dec))) (λ w (f, e). (f, ap (λ (x : List ℕ). text "(psl " ++ x) e)) rest
    where
      inc : (w : List ℕ) → FormOf 1 w → (x : List ℕ) × Rest (w ++ x)
      inc w (f, sf, e) =
          let (g, d) = as_written f sf in
          (41 ∷ [], (g, ap (λ (x : List ℕ). x ++ (41 ∷ [])) (e ∙ ap bytes (sym d) ∙ form-bytes g)))

      dec : (w : List ℕ) → Rest w → Begins (FormOf 1) w
      dec w (f, e) = (spell f, 41 ∷ [], (form f, form-sorted f, sym (form-bytes f)), e)

      rest : (s' : List ℕ) → Agree (suc p) s s' → SpellsFormula (text "(psl " ++ drop start s') → Rest (drop start s')
      rest s' g (f, e) = (f, append_cancel_left (text "(psl ") _ _ e)

  module _ {f : Form} (sf : Sorted 1 f) {next nodes : ℕ} {large : Bool} {l l' : List ℕ} (a : FormStands f s start 0 next nodes large l l') where
    abbrev g : Written
    g = (as_written f sf).0

    same : form g ≡ f
    same = (as_written f sf).1

    spelled : Stands (spell g) s start next
    spelled = subst (λ (w : List ℕ). Stands w s start next) (ap bytes (sym same) ∙ form-bytes g) a.stands

    pub not-closed : {p : ℕ} → Stops (Only 41) s next p → StopsLine SpellsFormula s 0 p
    not-closed {p} z = halts-after (stands_join o spelled) z (λ w e. (g, ap (λ (x : List ℕ). text "(psl " ++ (spell g ++ x)) e)) dec
      where
        dec : (s' : List ℕ) → Agree (suc p) s s' → SpellsFormula (text "(psl " ++ spell g ++ drop next s') → Begins (Only 41) (drop next s')
        dec s' i (h, e) = (41 ∷ [], [], refl, (spell_unique g h (drop next s') (41 ∷ []) (append_cancel_left (text "(psl ") _ _ e)).1)

    module _ {last : ℕ} (e : Stands (41 ∷ []) s next last) where
      line : Stands (formula_line g) s 0 last
      line = subst (λ (w : List ℕ). Stands w s 0 last) (simp append_assoc) (stands_join (stands_join o spelled) e)

      pub tail_left : last < length s → StopsLine SpellsFormula s 0 last
      tail_left z = halts-after line (stops_end s last z) (λ w d. (g, ap (λ (x : List ℕ). formula_line g ++ x) d ∙ append-nil (formula_line g))) dec
        where
          dec : (s' : List ℕ) → Agree (suc last) s s' → SpellsFormula (formula_line g ++ drop last s') → Nothing (drop last s')
          dec s' j (h, d) = (line_unique g h (drop last s') [] (d ∙ sym (append-nil (formula_line h)))).1

      pub line_read : length s ≤ last → (f : Written) × WholeStands f s nodes large l l'
      line_read z =
          let whole : last ≡ length s = omega (arith, e.within) in (
            g,
            record {
              is = line.is ∙ ap (λ (x : List ℕ). formula_line g ++ x) (ap (λ (j : ℕ). drop j s) whole ∙ drop-length s) ∙ append-nil (formula_line g);
              signals = a.signals ∙ ap wide (sym same) ∙ wide_large g;
              writes = subst (λ (x : List Node). Writes large x 0 l nodes l') (ap (λ (x : Form). nodes_from x 0) (sym same) ∙ sym (written_closing g)) a.writes;
            },
          )

-- ── The answer ──

pub too_long : (s l : List ℕ) → most_bytes < length s → FormulaAnswer s l (Err LongLine) l
too_long s l h = (record { reading = long h; reason = refl }, refl)

pub no-formula : (s l : List ℕ) {p : ℕ} → length s ≤ most_bytes → StopsLine SpellsFormula s 0 p → FormulaAnswer s l (Err (Shape p)) l
no-formula s l {p} h a = (record { reading = breaks h p (breaks-at (λ w x. x) (λ f. (f, refl)) a); reason = refl }, refl)

-- The line spells f; a and b are the list that it was read into, before and after.
module _ {s : List ℕ} (l : List ℕ) {f : Written} {nodes : ℕ} {large : Bool} {a b : List ℕ} (h : length s ≤ most_bytes) (x : WholeStands f s nodes large a b) where
  refuses : (e : Refusal) → formula_refusal (length l) f ≡ some e → FormulaAnswer s l (Err e) l
  refuses e d = (record { reading = spells h f x.is; reason = d }, refl)

  pub many_nodes : psl_rules.most < nodes → FormulaAnswer s l (Err ManyNodes) l
  unfolding formula_limits formula_refusal
  many_nodes i = refuses ManyNodes (rw (lt-leb (length (table_nodes f)) psl_rules.most (omega (arith, x.writes.counts))))

  module _ (i : nodes ≤ psl_rules.most) where
    counted : nodes ≡ length (table_nodes f)
    counted = omega (arith, x.writes.counts)

    few : leb (length (table_nodes f)) psl_rules.most ≡ true
    few = le-leb (length (table_nodes f)) psl_rules.most (omega (arith, counted))

    pub large_signal_lem : large ≡ true → FormulaAnswer s l (Err LargeSignal) l
    unfolding formula_limits formula_refusal
    large_signal_lem j = refuses LargeSignal (rw (few, sym x.signals ∙ j))

    module _ (j : large ≡ false) where
      pub no_room : length l < 3 * nodes → FormulaAnswer s l (Err ListRoom) l
      unfolding formula_limits formula_refusal
      no_room k = refuses ListRoom (rw (few, sym x.signals ∙ j, lt-leb (3 * length (table_nodes f)) (length l) (omega (arith, counted))))

      module _ (k : 3 * nodes ≤ length l) where
        room : formula_refusal (length l) f ≡ none
        unfolding formula_limits formula_refusal
        room = rw (few, sym x.signals ∙ j, le-leb (3 * length (table_nodes f)) (length l) (omega (arith, counted)))

        -- The table was put aside in a list with room for it, and from there into the lent list.
        pub table-read : 3 * nodes ≤ length a → (l' : List ℕ) → l' ≡ sets l 0 (take (3 * nodes) b) → FormulaAnswer s l (Ok nodes) l'
        table-read u l' e =
            let ns = numbers_of (table_nodes f) in
            let few : 3 * nodes ≡ length ns = omega (arith, counted, length-numbers (table_nodes f)) in
            let aside : take (3 * nodes) b ≡ ns =
            ap (take (3 * nodes)) (x.writes.writes j (omega (arith, i)) ∙ front-sets ns a (omega arith)) ∙ front-take ns a (3 * nodes) few in (
              f,
              record { short = h; is = x.is; within = room },
              counted,
              e ∙ ap (sets l 0) aside ∙ front-sets ns l (omega arith),
            )

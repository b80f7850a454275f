-- What each step of a run keeps of the relation between the input taken, the output and the run.
use mathlib.Core.Path.{◌≡◌, refl, ap, sym, subst, ◌∙◌}
use mathlib.Core.Logic.{inl}
use mathlib.Core.Bool.{Bool, true, false}
use mathlib.Core.List.{List, [], ◌∷◌, ◌++◌, append_assoc, append-nil}
use Prim.Native.Nat.{ℕ, suc, ◌+◌, ◌-◌, ◌<◌}
use native.Mathlib.Omega.{arith}
use borrow.Author.Tests.{ne_eqb}
use lib.ListN.{length, take, length-append}
use Rattle.std.specs.Prelude.{Result, Ok, Err}
use Rattle.trace.specs.declared.refusal.Refusal.{Refusal}
use Rattle.table.specs.Node.{◌▸◌}
use Rattle.logic.specs.Written.{Written, spelled_out}
use Rattle.translate.specs.Emitted.{emitted}
use Rattle.text.specs.Limits.{most_bytes}
use Rattle.text.proofs.ReadingLaw.{takes-cut, refuses-cut}
use Rattle.printing.specs.Printed.{table_text}
use Rattle.answers.specs.Input.{ended_after, open_after, ended_lines, open_line, input_lines}
use Rattle.answers.specs.Answer.{LaterAnswer, later_text}
use Rattle.answers.specs.Whole.{Prints, Runs}
use Rattle.answers.specs.Inner.{kept_bytes, TablesOf}
use Rattle.answers.specs.declared.Verdicts.{Verdicts}
use Rattle.answers.proofs.CutLaw.{ended_end, open_end, ended-byte, open_byte, last-ends, only_line, no_last, some-ended, all_ended}
use Rattle.answers.proofs.WholeLaw.{later_kept, refused-runs, traces-more}
use Rattle.line_one.specs.Inner.{FirstAnswer}
use Rattle.line_one.specs.declared.Tables.{Tables}
use Rattle.run.specs.Inner.{Starts, goes, goes_on, Stores, PrintedSoFar, Going, GoingOrOver, FirstDone, Kept}
use Rattle.run.specs.declared.Stage.{Stage}
use Rattle.run.specs.declared.Stage.TheVariants.{First, Later, Ended}
use Rattle.run.specs.declared.Run.{Run}
use Rattle.text.specs.Inner.Put.{put_join}
use Rattle.std.proofs.lemmas.Bool.{both_ways}

-- ── Nothing is taken yet ──

pub going_start : (s : Run) → Starts s → Going [] [] s
unfolding ended_after open_after
going_start s (stage, number, line, out) = record { counted = number; kept = line; printed = (stage, refl) }

-- ── A byte of a line ──

pub going-byte : {read out : List ℕ} (s r : Run) (b : ℕ) → (b ≡ 10 → ⊥) → Kept b s r → Going read out s → Going (read ▸ b) out r
going-byte {read} {out} s r b ne k g =
    let other = ne_eqb b 10 ne in
    let ended = ended-byte b other read [] in
    record {
      counted = k.number ∙ g.counted ∙ ap (λ (ls : List (List ℕ)). 1 + length ls) (sym ended);
      kept = k.line ∙ ap (λ (l : List ℕ). take kept_bytes (l ▸ b)) g.kept ∙ put_join kept_bytes [] (open_line read) (b ∷ []) ∙ ap (take kept_bytes) (sym (open_byte b other read []));
      printed = subst (λ (ls : List (List ℕ)). PrintedSoFar ls out r.stage) (sym ended) (subst (PrintedSoFar (ended_lines read) out) (sym k.stage) g.printed);
    }

-- ── Line 1 ends ──

-- A line's answer rests on the bytes that are kept.
first-kept : (o : List ℕ) (a : Result Tables Refusal) → FirstAnswer (take kept_bytes o) a → FirstAnswer o a
first-kept o (Ok t) (f, a, b) = (f, takes-cut o kept_bytes (omega arith) a, b)
first-kept o (Err x) a = refuses-cut o kept_bytes (omega arith) a

-- Before it ends, no line has, and nothing is printed.
none_ended : (ls : List (List ℕ)) (out : List ℕ) (stage : Stage) → stage ≡ First → PrintedSoFar ls out stage → (ls ≡ []) × (out ≡ [])
none_ended [] out stage e (_, o) = (refl, o)
none_ended (l ∷ ls) out stage e (f, _, _, b, _, _) = absurd (subst (Stores f) e b)

nil-left : (xs ys : List ℕ) → xs ++ ys ≡ [] → xs ≡ []
nil-left [] ys e = refl
nil-left (x ∷ xs) ys e = let z : suc (length (xs ++ ys)) ≡ 0 = ap length e in absurd (omega arith)

module _ (read done : List ℕ) (s r : Run) (number : r.number ≡ s.number + 1) (line : r.line.items ≡ []) (g : Going read (done ++ s.out.items) s) where
  kept-none : r.line.items ≡ take kept_bytes (open_line (read ▸ 10))
  kept-none = line ∙ ap (take kept_bytes) (sym (open_end read []))

  pub first_ends : s.stage ≡ First → FirstDone s.line.items r.stage r.out.items → GoingOrOver (read ▸ 10) (done ++ r.out.items) r
  first_ends start d = go r.stage refl d
    where
      none : (ended_lines read ≡ []) × (done ++ s.out.items ≡ [])
      none = none_ended (ended_lines read) (done ++ s.out.items) s.stage start g.printed

      ended : ended_lines (read ▸ 10) ≡ open_line read ∷ []
      ended = ended_end read [] ∙ ap (λ (ls : List (List ℕ)). ls ▸ open_line read) none.0

      text : done ++ r.out.items ≡ r.out.items
      text = ap (λ (x : List ℕ). x ++ r.out.items) (nil-left done s.out.items none.1)

      whole : (a : Result Tables Refusal) → FirstAnswer s.line.items a → FirstAnswer (open_line read) a
      whole a h = first-kept (open_line read) a (subst (λ (x : List ℕ). FirstAnswer x a) g.kept h)

      go : (stage : Stage) → r.stage ≡ stage → FirstDone s.line.items stage r.out.items → GoingOrOver (read ▸ 10) (done ++ r.out.items) r
      go First e h = absurd h
      go (Later t) e (h, out) =
          let (f, a, b) = whole (Ok t) h in
          record {
            going = λ _. record {
              counted = number ∙ ap (λ (k : ℕ). k + 1) g.counted ∙ omega (arith, ap length none.0) ∙ ap (λ (ls : List (List ℕ)). 1 + length ls) (sym ended);
              kept = kept-none;
              printed = subst (λ (ls : List (List ℕ)). PrintedSoFar ls (done ++ r.out.items) r.stage) (sym ended)
                  (f, [], a, subst (Stores f) (sym e) b, text ∙ out ∙ ap table_text b.translated ∙ sym (append-nil (table_text (emitted (spelled_out f)))), refl);
            };
            over = λ m. absurd (both_ways _ m (ap goes e));
          }
      go Ended e (x, h, out) =
          record {
            going = λ m. absurd (both_ways _ (ap goes e) m);
            over = λ _. refused-runs (read ▸ 10) (open_line read) (done ++ r.out.items) x ended (whole (Err x) h) (text ∙ out);
          }

  -- ── A later line ends ──

  pub going_later : (t : Tables) (answer : Result Verdicts Refusal) → ((f : Written) → TablesOf f t.psl.items t.ltl.items → LaterAnswer (spelled_out f) s.line.items answer)
      → s.stage ≡ Later t → r.stage ≡ s.stage → r.out.items ≡ s.out.items ++ later_text (s.number - 1) answer → Going (read ▸ 10) (done ++ r.out.items) r
  going_later t answer answers e same out =
      let ended = ended_end read [] in
      let text : done ++ r.out.items ≡ (done ++ s.out.items) ++ later_text (s.number - 1) answer =
      ap (λ (x : List ℕ). done ++ x) out ∙ sym (append_assoc done s.out.items (later_text (s.number - 1) answer)) in
      record {
        counted = number ∙ omega (arith, g.counted, length-append (ended_lines read) (open_line read ∷ [])) ∙ ap (λ (ls : List (List ℕ)). 1 + length ls) (sym ended);
        kept = kept-none;
        printed = subst (λ (ls : List (List ℕ)). PrintedSoFar ls (done ++ r.out.items) r.stage) (sym ended)
            (subst (λ (x : List ℕ). PrintedSoFar (ended_lines read ▸ open_line read) x r.stage) (sym text)
            (subst (PrintedSoFar (ended_lines read ▸ open_line read) ((done ++ s.out.items) ++ later_text (s.number - 1) answer)) (sym same)
            (go (ended_lines read) refl g.printed)));
      }
    where
      go : (ls : List (List ℕ)) → ended_lines read ≡ ls → PrintedSoFar ls (done ++ s.out.items) s.stage
          → PrintedSoFar (ls ▸ open_line read) ((done ++ s.out.items) ++ later_text (s.number - 1) answer) s.stage
      go [] n (first, _) = let z : ◌≡◌ {A = ℕ} 0 1 = cc in absurd (omega arith)
      go (l ∷ ls) n (f, rest, a, b, c, p) =
          let answered = later_kept (spelled_out f) (open_line read) answer (subst (λ (x : List ℕ). LaterAnswer (spelled_out f) x answer) g.kept (answers f (subst (Stores f) e b))) in (
            f,
            rest ++ later_text (s.number - 1) answer,
            a,
            b,
            ap (λ (x : List ℕ). x ++ later_text (s.number - 1) answer) c ∙ append_assoc (table_text (emitted (spelled_out f))) rest (later_text (s.number - 1) answer),
            traces-more (spelled_out f) (open_line read) answer answered (s.number - 1) 1 ls rest (omega (arith, g.counted, ap length n)) p,
          )

-- ── The input's end ──

prints : (out : List ℕ) (stage : Stage) (ls : List (List ℕ)) → 0 < length ls → PrintedSoFar ls out stage → Prints ls out
prints out stage [] h t = absurd (omega arith)
prints out stage (l ∷ ls) h (f, rest, a, _, c, p) = inl (f, rest, a, c, p)

module _ {read out : List ℕ} (s : Run) (g : Going read out s) where
  -- No line is open: the lines that have ended are all.
  pub end_empty : s.line.items ≡ [] → (s.stage ≡ First → ⊥) → Runs read out
  end_empty f h = go (ended_lines read) refl g.printed
    where
      empty : open_line read ≡ []
      empty = nil (open_line read) (sym g.kept ∙ f)
        where
          nil : (o : List ℕ) → take kept_bytes o ≡ [] → o ≡ []
          nil [] e = refl
          nil (b ∷ o) e = let z : suc (length (take most_bytes o)) ≡ 0 = ap length e in absurd (omega arith)

      go : (ls : List (List ℕ)) → ended_lines read ≡ ls → PrintedSoFar ls out s.stage → Runs read out
      go [] e t = absurd (h t.0)
      go (l ∷ ls) e t = subst (λ (ms : List (List ℕ)). Prints ms out) (sym (no_last read l ls e empty)) (prints out s.stage (l ∷ ls) (omega arith) t)

  -- The open line is answered as if byte 10 ended it.
  pub end_open : {out' : List ℕ} (r : Run) → (s.line.items ≡ [] → s.stage ≡ First) → GoingOrOver (read ▸ 10) out' r → Runs read out'
  end_open {out'} r h a = go (goes_on r) refl
    where
      same : input_lines read ≡ ended_lines (read ▸ 10)
      same = by (ended_lines read) refl
        where
          by : (ls : List (List ℕ)) → ended_lines read ≡ ls → input_lines read ≡ ended_lines (read ▸ 10)
          by [] e = only_line read e
          by (l ∷ ls) e =
              last-ends read (λ n. let z : ◌≡◌ {A = ℕ} 0 1 = cc in omega arith)
              (λ o. let short : s.line.items ≡ [] = g.kept ∙ ap (take kept_bytes) o in let none = (none_ended (ended_lines read) out s.stage (h short) g.printed).0 in omega (arith, ap length none, ap length e))

      go : (m : Bool) → goes_on r ≡ m → Runs read out'
      go true e = subst (λ (ls : List (List ℕ)). Prints ls out') (sym same) (prints out' r.stage (ended_lines (read ▸ 10)) (some-ended read) (a.going e).printed)
      go false e =
          subst (λ (ls : List (List ℕ)). Prints ls out') (all_ended read ∙ sym same)
          (subst (λ (x : List ℕ). Runs x out') (append-nil (read ▸ 10)) (a.over e []))

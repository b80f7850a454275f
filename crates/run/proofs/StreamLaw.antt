-- What each way out of the functions of the stream gives.
use mathlib.Core.Path.{◌≡◌, refl, ap, sym, subst, ◌∙◌}
use mathlib.Core.Bool.{true, false}
use mathlib.Core.List.{List, [], ◌∷◌, ◌++◌, append_assoc, append-nil}
use Prim.Native.Nat.{ℕ, ◌+◌, ◌*◌, ◌-◌, ◌<◌, ◌≤◌}
use native.Mathlib.Omega.{arith}
use native.Mathlib.Numerals.{add-one}
use borrow.Author.Tests.{ne_eqb}
use lib.Dec.{eqb}
use Rattle.std.proofs.lemmas.Bool.{both_ways}
use lib.ListN.{length, take, drop, get_or, take-append-drop}
use lib.Seq.{take-suc, take_all}
use Rattle.table.specs.Node.{◌▸◌}
use Rattle.printing.specs.Limits.{most_later, most_first}
use Rattle.answers.specs.Answer.{later_text}
use Rattle.answers.specs.Whole.{Runs}
use Rattle.answers.proofs.ClaimsLaw.{later-short}
use Rattle.run.specs.Bounds.{most_block, most_gathered, gathering_room, most_lines}
use Rattle.run.specs.Inner.{goes, goes_on, none_open_in, none_open, Going, GoingOrOver, Gathered, FirstDone, AnsweredIn, Answered, LineDone, Kept, Fed, Finished, Ends, Advanced, Turns, no_turn, one_turn}
use Rattle.run.specs.declared.Stage.TheVariants.{First, Later, Ended}
use Rattle.run.specs.declared.Stage.{Stage}
use Rattle.run.specs.declared.Run.{Run}
use Rattle.run.proofs.BoundsLaw.{put_fits}
use Rattle.run.proofs.ProgressLaw.{going_start, going-byte, first_ends, going_later, end_empty, end_open}

-- ── A line's end ──

-- The line is answered, then another begins.
module _ (s m r : Run) (g : Gathered most_gathered s) (more : goes_on s ≡ true) (number : r.number ≡ m.number + 1) (stage : r.stage ≡ m.stage) (out : r.out.items ≡ m.out.items)
    (line : r.line.items ≡ []) (few : s.number < most_lines) (d : Answered s m) where
  pub line_done : LineDone s r
  line_done = go s.stage refl d.done
    where
      counted : r.number ≡ s.number + 1
      counted = omega (arith, number, d.number)

      go : (st : Stage) → s.stage ≡ st → AnsweredIn st s m → LineDone s r
      go First e (h, short) =
          let h' = subst (λ (x : List ℕ). FirstDone s.line.items r.stage x) (sym out) (subst (λ (x : Stage). FirstDone s.line.items x m.out.items) (sym stage) h) in
          record {
            number = counted;
            short = λ k _. omega (arith, ap length out, short);
            later = λ f. subst (λ (x : Stage). FirstDone s.line.items x m.out.items) (sym stage ∙ f) h;
            tells = λ read done a. first_ends read done s r counted line a e h';
          }
      go (Later t) e (h, same) =
          let (text, all) = put_fits s.out.items (later_text (s.number - 1) h.answer) gathering_room most_later h.writes (later-short (s.number - 1) h.answer h.within (omega (arith, few))) (omega (arith, g.few)) in
          record {
            number = counted;
            short = λ k l. omega (arith, ap length out, all);
            later = λ f. let q = sym e ∙ sym same ∙ sym stage ∙ f in let z : ◌≡◌ {A = ℕ} 0 1 = cc in omega arith;
            tells = λ read done a. record {
              going = λ _. going_later read done s r counted line a t h.answer h.answers e (stage ∙ same) (out ∙ text);
              over = λ n. absurd (both_ways _ n (ap goes (stage ∙ same) ∙ more));
            };
          }
      go Ended e h = absurd (both_ways _ (ap goes e) more)

-- ── Nothing is gathered ──

no_items : (xs : List ℕ) → length xs ≤ 0 → xs ≡ []
no_items [] h = refl
no_items (x ∷ xs) h = absurd (omega arith)

module _ (s : Run) (g : Gathered 0 s) where
  none_gathered : (done : List ℕ) → done ++ s.out.items ≡ done
  none_gathered done = ap (λ (x : List ℕ). done ++ x) (no_items s.out.items g.few) ∙ append-nil done

  pub none_yet : {read done : List ℕ} → Going read done s → Going read (done ++ s.out.items) s
  none_yet {read} {done} a = subst (λ (x : List ℕ). Going read x s) (sym (none_gathered done)) a

  -- ── The input's end ──

  nothing_open : s.line.items ≡ [] → (s.stage ≡ First → ⊥) → Finished s s
  nothing_open line later read done a = subst (Runs read) (sym (none_gathered done)) (end_empty s a line later)

  line_open : (r : Run) → (s.line.items ≡ [] → s.stage ≡ First) → LineDone s r → Finished s r
  line_open r first d read done a = end_open s a r first (d.tells read done (none_yet a))

pub emptied : (l : List ℕ) → true ≡ eqb (length l) 0 → l ≡ []
emptied [] e = refl
emptied (x ∷ l) e = absurd (both_ways _ (ne_eqb (length (x ∷ l)) 0 (λ h. omega (arith, h))) (sym e))

none_is_open : (st : Stage) (o : List ℕ) → none_open_in st o ≡ true → (o ≡ []) × (st ≡ First → ⊥)
none_is_open First o e = absurd (both_ways false refl e)
none_is_open (Later t) o e = (emptied o (sym e), λ f. let z : ◌≡◌ {A = ℕ} 0 1 = cc in omega arith)
none_is_open Ended o e = absurd (both_ways false refl e)

first_open : (st : Stage) (o : List ℕ) → goes st ≡ true → none_open_in st o ≡ false → o ≡ [] → st ≡ First
first_open First o m e n = refl
first_open (Later t) o m e n = absurd (both_ways (eqb (length o) 0) e (ap (λ (l : List ℕ). eqb (length l) 0) n))
first_open Ended o m e n = absurd (both_ways false refl m)

-- The input ends where no line is open, and where one is.
module _ (s : Run) (g : Gathered 0 s) where
  pub finish_whole : none_open s ≡ true → Finished s s
  finish_whole e = let (line, later) = none_is_open s.stage s.line.items e in nothing_open s g line later

  pub finish_open : (r : Run) → goes_on s ≡ true → none_open s ≡ false → LineDone s r → Finished s r
  finish_open r m e = line_open s g r (first_open s.stage s.line.items m e)

-- ── The loop over a block ──

-- The run r after the first i bytes of a block, from s on.
pub record Feeding (block : List ℕ) (s r : Run) (i : ℕ) : Type 0 where
  pub gathered : Gathered (most_first + most_later * i) r
  pub more : goes_on r ≡ true
  pub number : r.number ≤ s.number + i
  pub tells : (read done : List ℕ) → Going read done s → Going (read ++ take i block) (done ++ r.out.items) r

pub feeding_start : {block : List ℕ} {s : Run} → Gathered 0 s → goes_on s ≡ true → Feeding block s s 0
feeding_start {s = s} g m =
    record {
      gathered = record { few = omega (arith, g.few); first = g.first };
      more = m;
      number = omega arith;
      tells = λ read done a. subst (λ (x : List ℕ). Going x (done ++ s.out.items) s) (sym (append-nil read)) (none_yet s g a);
    }

-- The bytes taken, with one more.
one_more : (read block : List ℕ) (i b : ℕ) → i < length block → b ≡ get_or block i 0 → (read ++ take i block) ▸ b ≡ read ++ take (i + 1) block
one_more read block i b h e =
    append_assoc read (take i block) (b ∷ [])
    ∙ ap (λ (x : List ℕ). read ++ x) (ap (λ (c : ℕ). take i block ▸ c) e ∙ sym (take-suc block i 0 h) ∙ ap (λ (k : ℕ). take k block) (sym (add-one i)))

-- What the end of a line in the block needs.
pub line_ready : {block : List ℕ} {s r : Run} {i : ℕ} → Feeding block s r i → i < length block → length block ≤ most_block → s.number + length block ≤ most_lines
    → Gathered most_gathered r × (goes_on r ≡ true) × (r.number < most_lines)
line_ready f low short counted =
    (record { few = omega (arith, f.gathered.few); first = f.gathered.first }, f.more, omega (arith, f.number))

module _ {block : List ℕ} {s r : Run} {i : ℕ} (f : Feeding block s r i) (h : i < length block) (b : ℕ) (e : b ≡ get_or block i 0) (r' : Run) where
  pub feeding_byte : (b ≡ 10 → ⊥) → Kept b r r' → Feeding block s r' (i + 1)
  feeding_byte ne k =
      record {
        gathered = record { few = omega (arith, ap length k.out, f.gathered.few); first = λ first. k.out ∙ f.gathered.first (sym k.stage ∙ first) };
        more = ap goes k.stage ∙ f.more;
        number = omega (arith, k.number, f.number);
        tells = λ read done a.
            subst (λ (x : List ℕ). Going x (done ++ r'.out.items) r') (one_more read block i b h e)
            (subst (λ (x : List ℕ). Going ((read ++ take i block) ▸ b) (done ++ x) r') (sym k.out)
            (going-byte r r' b ne k (f.tells read done a)));
      }

  module _ (ten : b ≡ 10) (d : LineDone r r') where
    line_ends : (read done : List ℕ) → Going read done s → GoingOrOver (read ++ take (i + 1) block) (done ++ r'.out.items) r'
    line_ends read done a =
        subst (λ (x : List ℕ). GoingOrOver x (done ++ r'.out.items) r') (one_more read block i 10 h (sym ten ∙ e)) (d.tells (read ++ take i block) done (f.tells read done a))

    pub feeding_line : goes_on r' ≡ true → Feeding block s r' (i + 1)
    feeding_line m =
        record {
          gathered = record { few = omega (arith, d.short (most_later * i) f.gathered.few); first = λ k. absurd (d.later k) };
          more = m;
          number = omega (arith, d.number, f.number);
          tells = λ read done a. (line_ends read done a).going m;
        }

    -- Line 1 was refused: what follows in the block does not matter.
    pub feeding_over : goes_on r' ≡ false → Fed block s r'
    feeding_over m read done a =
        record {
          going = λ g. absurd (both_ways _ m g);
          over = λ _ rest.
              let all : (read ++ take (i + 1) block) ++ (drop (i + 1) block ++ rest) ≡ (read ++ block) ++ rest =
              sym (append_assoc (read ++ take (i + 1) block) (drop (i + 1) block) rest)
              ∙ ap (λ (x : List ℕ). x ++ rest) (append_assoc read (take (i + 1) block) (drop (i + 1) block) ∙ ap (λ (x : List ℕ). read ++ x) (take-append-drop (i + 1) block)) in
              subst (λ (x : List ℕ). Runs x (done ++ r'.out.items)) all ((line_ends read done a).over m (drop (i + 1) block ++ rest));
        }

pub feeding_end : {block : List ℕ} {s : Run} (r : Run) (i : ℕ) → Feeding block s r i → length block ≤ i → Fed block s r
feeding_end {block} r i f h read done a =
    record {
      going = λ _. subst (λ (x : List ℕ). Going (read ++ x) (done ++ r.out.items) r) (take_all i block h) (f.tells read done a);
      over = λ m. absurd (both_ways _ m f.more);
    }

-- ── A block ──

-- Gathering begins anew: the relation does not speak of what is gathered.
pub anew : {read done : List ℕ} (s r : Run) → r.stage ≡ s.stage → r.number ≡ s.number → r.line.items ≡ s.line.items → Going read done s → Going read done r
anew s r stage number line a = record { counted = number ∙ a.counted; kept = line ∙ a.kept; printed = rw stage a.printed }

pub advance_on : {block : List ℕ} {s s' r : Run} → (block ≡ [] → ⊥) → ((read done : List ℕ) → Going read done s → Going read done s') → Fed block s' r → Advanced block s r r.out.items
advance_on {block} {r = r} some again d =
    record {
      goes = λ m read done a. (d read done (again read done a)).going m;
      ends = λ m read done a. go block some read (done ++ r.out.items) ((d read done (again read done a)).over m);
    }
  where
    go : (xs : List ℕ) → (xs ≡ [] → ⊥) → (read out : List ℕ) → ((rest : List ℕ) → Runs ((read ++ xs) ++ rest) out) → Ends read xs out
    go [] z read out f = absurd (z refl)
    go (x ∷ xs) z read out f = λ rest. subst (λ (y : List ℕ). Runs y out) (append_assoc read (x ∷ xs) rest) (f rest)

-- ── Turns ──

pub turned : {read done : List ℕ} {s : Run} → Turns read done s → Going read done s
turned (no_turn {s} h) = going_start s h
turned (one_turn t a m) = a.goes m _ _ (turned t)

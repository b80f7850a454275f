-- What each way out of the readers of letters gives.
use mathlib.Core.Path.{◌≡◌, refl, ap, sym, subst, ◌∙◌}
use mathlib.Core.Bool.{Bool, ◌||◌, or_assoc}
use mathlib.Core.List.{List, [], ◌∷◌, ◌++◌, append_assoc, append-nil, head-eq_of_cons-eq, tail-eq_of_cons-eq}
use Prim.Native.Nat.{ℕ, suc, ◌+◌, ◌^◌, ◌≤◌}
use native.Mathlib.Omega.{arith}
use lib.ListN.{length, drop, length-append}
use lib.Seq.{sets}
use lib.Dec.{leb}
use Rattle.std.specs.Prelude.{Option, Some, None, Result, Ok, Err, unwrap_or}
use Rattle.logic.specs.Letter.{signals}
use Rattle.text.specs.Spelling.{digits}
use Rattle.text.specs.Inner.Places.{Stands, Agree, Language, Begins, Halts, Stops, Only}
use Rattle.text.specs.Inner.Number.{Numeral, Numbered}
use Rattle.text.specs.Inner.Scan.{NumberStands}
use Rattle.text.specs.declared.scan.Fault.{Fault}
use Rattle.trace_lines.specs.TraceAnswer.{large_letter}
use Rattle.trace_lines.specs.Inner.LettersReader.{Puts, further, listed, Any, NonEmpty, Spelled, LettersRead}
use Rattle.text.proofs.PlaceLaw.{agree_less, stands_join, halts-first, halts-after}
use Rattle.text.proofs.NumberLaw.{digits_unique, digits-first, ending-no-digit, ending_unique}
use Rattle.text.proofs.ScanLaw.{no-digit-agree}
use Rattle.table.proofs.StoreLaw.{sets-sets}

abbrev Further : Language
Further = Spelled further Any

-- ── Letters that are put ──

large_append : (xs ys : List ℕ) → large_letter (xs ++ ys) ≡ (large_letter xs || large_letter ys)
large_append [] ys = refl
large_append (x ∷ xs) ys = ap (λ (b : Bool). leb (2 ^ signals) x || b) (large_append xs ys) ∙ sym (or_assoc (leb (2 ^ signals) x) (large_letter xs) (large_letter ys))

pub puts_none : (n : Option ℕ) (l : List ℕ) → Puts [] n n l l
puts_none None l = refl
puts_none (Some n) l = (refl, omega arith, refl)

pub puts_join : (xs ys : List ℕ) (n m r : Option ℕ) (l l' l'' : List ℕ) → Puts xs n m l l' → Puts ys m r l' l'' → Puts (xs ++ ys) n r l l''
puts_join xs ys None None r l l' l'' a b = b
puts_join xs ys None (Some m) r l l' l'' a b = cc
puts_join xs ys (Some n) None None l l' l'' a b = rw (large_append xs ys, a)
puts_join xs ys (Some n) None (Some r) l l' l'' a b = cc
puts_join xs ys (Some n) (Some m) None l l' l'' a b = rw (large_append xs ys, a.0, b)
puts_join xs ys (Some n) (Some m) (Some r) l l' l'' a b = (
  rw (large_append xs ys, a.0, b.0),
  omega (arith, a.1, b.1, length-append xs ys),
  b.2 ∙ ap (λ (y : List ℕ). sets y m ys) a.2 ∙ sets-sets xs ys l n m (sym a.1),
)

puts_few : (xs : List ℕ) (n m : Option ℕ) (l l' : List ℕ) → Puts xs n m l l' → unwrap_or m 0 ≤ unwrap_or n 0 + length xs
puts_few xs None None l l' a = omega arith
puts_few xs None (Some m) l l' a = cc
puts_few xs (Some n) None l l' a = omega arith
puts_few xs (Some n) (Some m) l l' a = omega (arith, a.1)

-- ── Further letters ──

-- A number that stands where a letter and further ones stand is that letter.
same_letter : {s s' : List ℕ} {at next p x : ℕ} → NumberStands x s at next → next ≤ p → Agree (suc p) s s' → (y : ℕ) (ys t : List ℕ)
    → digits x ++ drop next s' ≡ (digits y ++ further ys) ++ t → Begins Further (drop next s')
same_letter {s} {s'} {at} {next} {p} {x} a h g y ys t e =
    let (_, d) =
    digits_unique x y (drop next s') (further ys ++ t) (no-digit-agree next (omega arith) g a.ends) (ending-no-digit ys t)
    (e ∙ append_assoc (digits y) (further ys) t) in
    (further ys, t, (ys, tt, refl), d)

pub no_letter : {s : List ℕ} {i j p : ℕ} → Stands (32 ∷ []) s i j → Halts Numeral Numbered s j p → Stops Further s i p
no_letter o a =
    halts-after o
    (halts-first {L = λ w. Further (32 ∷ w)} {R = λ x. Begins Further (32 ∷ x)} a (λ w (n, e). (41 ∷ [], (n ∷ [], tt, ap (λ (y : List ℕ). 32 ∷ (y ++ (41 ∷ []))) e))) (λ s' g. dec))
    (λ w l. l) (λ s' g l. l)
  where
    dec : {x : List ℕ} → Begins Further (32 ∷ x) → Numbered x
    dec (w, t, ([], _, e), d) = absurd (omega (arith, head-eq_of_cons-eq (d ∙ ap (λ (y : List ℕ). y ++ t) e)))
    dec (w, t, (y ∷ ys, _, e), d) =
        (y, further ys ++ t, ending-no-digit ys t, tail-eq_of_cons-eq (d ∙ ap (λ (z : List ℕ). z ++ t) e) ∙ append_assoc (digits y) (further ys) t)

pub no_end : {s : List ℕ} {i p : ℕ} → Stops (Only 32) s i i → Stops (Only 41) s i p → Stops Further s i p
no_end {s} {i} {p} z a = halts-first a (λ w e. ([], ([], tt, append-nil w ∙ e))) dec
  where
    dec : (s' : List ℕ) → Agree (suc p) s s' → Begins Further (drop i s') → Begins (Only 41) (drop i s')
    dec s' g (w, t, ([], _, e), d) = (41 ∷ [], t, refl, d ∙ ap (λ (y : List ℕ). y ++ t) e)
    dec s' g (w, t, (x ∷ xs, _, e), d) =
        absurd (z.none s' (agree_less (omega (arith, a.after)) g) (32 ∷ [], (digits x ++ further xs) ++ t, refl, d ∙ ap (λ (y : List ℕ). y ++ t) e))

-- The letters xs have been read from place `at` up to i, with l become l': what is found from i on is found from `at` on.
pub record SoFar (s : List ℕ) (at i : ℕ) (n m : Option ℕ) (l l' : List ℕ) : Type 0 where
  pub letters : List ℕ
  pub after : at ≤ i
  pub within : i ≤ length s
  pub few : unwrap_or m 0 ≤ i
  pub puts : Puts letters n m l l'
  pub stops : {p : ℕ} → Stops Further s i p → Stops Further s at p
  pub stands : (ys : List ℕ) (next : ℕ) → Stands (further ys) s i next → Stands (further (letters ++ ys)) s at next

pub none_yet : {s : List ℕ} {at : ℕ} (n : Option ℕ) (l : List ℕ) → unwrap_or n 0 ≤ at → at ≤ length s → SoFar s at at n n l l
none_yet n l h g =
    record { letters = []; after = omega arith; within = g; few = h; puts = puts_none n l; stops = λ a. a; stands = λ ys next a. a }

pub one_more : {s : List ℕ} {at i j next x : ℕ} {n m r : Option ℕ} {l l' l'' : List ℕ} → SoFar s at i n m l l' → Stands (32 ∷ []) s i j
    → NumberStands x s j next → Puts (x ∷ []) m r l' l'' → SoFar s at next n r l l''
one_more {s} {at} {i} {j} {next} {x} {n} {m} {r} {l} {l'} {l''} f o a b =
    record {
      letters = f.letters ++ (x ∷ []);
      after = omega (arith, f.after, o.after, a.more);
      within = a.stands.within;
      few = omega (arith, puts_few (x ∷ []) m r l' l'' b, f.few, o.after, a.more);
      puts = puts_join f.letters (x ∷ []) n m r l l' l'' f.puts b;
      stops = λ c. f.stops (halts-after (stands_join o a.stands) c (λ w (ys, _, d). (x ∷ ys, tt, ap (λ (y : List ℕ). 32 ∷ (digits x ++ y)) d)) (dec c.after));
      stands = λ ys end c.
          subst (λ (zs : List ℕ). Stands (further zs) s at end) (sym (append_assoc f.letters (x ∷ []) ys))
          (f.stands (x ∷ ys) end (stands_join o (stands_join a.stands c)));
    }
  where
    dec : {p : ℕ} → next ≤ p → (s' : List ℕ) → Agree (suc p) s s' → Begins Further (32 ∷ (digits x ++ drop next s')) → Begins Further (drop next s')
    dec h s' g (w, t, ([], _, d), u) = absurd (omega (arith, head-eq_of_cons-eq (u ∙ ap (λ (y : List ℕ). y ++ t) d)))
    dec h s' g (w, t, (y ∷ ys, _, d), u) = same_letter a h g y ys t (tail-eq_of_cons-eq (u ∙ ap (λ (z : List ℕ). z ++ t) d))

pub letters_end : {s : List ℕ} {at i next : ℕ} {n : Option ℕ} {l l' : List ℕ} (m : Option ℕ) → SoFar s at i n m l l' → Stands (41 ∷ []) s i next
    → LettersRead further Any s at next n l l' (Ok m)
letters_end {s} {at} {i} {next} m f o =
    let same = append-nil f.letters in (
      f.letters,
      tt,
      record {
        stands = subst (λ (zs : List ℕ). Stands (further zs) s at next) same (f.stands [] next o);
        few = omega (arith, f.few, o.after);
        puts = f.puts;
      },
    )

-- ── A list after its opening bracket ──

pub no-first : {s : List ℕ} {at p : ℕ} → Halts Numeral Numbered s at p → Stops (Spelled listed NonEmpty) s at p
no-first a = halts-first a (λ w (n, e). (41 ∷ [], (n ∷ [], tt, ap (λ (y : List ℕ). y ++ (41 ∷ [])) e))) (λ s' g. dec)
  where
    dec : {x : List ℕ} → Begins (Spelled listed NonEmpty) x → Numbered x
    dec (w, t, ([], h, _), _) = absurd h
    dec (w, t, (y ∷ ys, _, e), d) =
        (y, further ys ++ t, ending-no-digit ys t, d ∙ ap (λ (z : List ℕ). z ++ t) e ∙ append_assoc (digits y) (further ys) t)

module _ {s : List ℕ} {at next x : ℕ} (a : NumberStands x s at next) where
  pub first_then_no : {p : ℕ} → Stops Further s next p → Stops (Spelled listed NonEmpty) s at p
  first_then_no {p} b = halts-after a.stands b (λ w (ys, _, d). (x ∷ ys, tt, ap (λ (y : List ℕ). digits x ++ y) d)) dec
    where
      dec : (s' : List ℕ) → Agree (suc p) s s' → Begins (Spelled listed NonEmpty) (digits x ++ drop next s') → Begins Further (drop next s')
      dec s' g (w, t, ([], h, _), _) = absurd h
      dec s' g (w, t, (y ∷ ys, _, d), u) = same_letter a b.after g y ys t (u ∙ ap (λ (z : List ℕ). z ++ t) d)

  pub first_then : (l l' : List ℕ) (m : Option ℕ) → Puts (x ∷ []) (Some 0) m l l' → (end : ℕ) (l'' : List ℕ) (r : Result (Option ℕ) Fault)
      → LettersRead further Any s next end m l' l'' r → LettersRead listed NonEmpty s at end (Some 0) l l'' r
  first_then l l' m b end l'' (Ok r) (ys, _, c) = (
    x ∷ ys,
    tt,
    record { stands = stands_join a.stands c.stands; few = c.few; puts = puts_join (x ∷ []) ys (Some 0) m r l l' l'' b c.puts },
  )
  first_then l l' m b end l'' (Err f) c = first_then_no c

pub some_list : (s : List ℕ) (at next : ℕ) (l l' : List ℕ) → Stops (Only 41) s at at → (r : Result (Option ℕ) Fault)
    → LettersRead listed NonEmpty s at next (Some 0) l l' r → LettersRead listed Any s at next (Some 0) l l' r
some_list s at next l l' z (Ok m) (xs, _, a) = (xs, tt, a)
some_list s at next l l' z (Err f) a = halts-first a (λ w (xs, _, e). ([], (xs, tt, append-nil w ∙ e))) dec
  where
    dec : (s' : List ℕ) → Agree (suc f.0) s s' → Begins (Spelled listed Any) (drop at s') → Begins (Spelled listed NonEmpty) (drop at s')
    dec s' g (w, t, ([], _, e), d) =
        absurd (z.none s' (agree_less (omega (arith, a.after)) g) (41 ∷ [], t, refl, d ∙ ap (λ (y : List ℕ). y ++ t) e))
    dec s' g (w, t, (x ∷ xs, _, e), d) = (w, t, (x ∷ xs, tt, e), d)

-- ── One way to read ──

pub list_unique : (xs ys t u : List ℕ) → listed xs ++ t ≡ listed ys ++ u → (xs ≡ ys) × (t ≡ u)
list_unique [] [] t u e = (refl, tail-eq_of_cons-eq e)
list_unique [] (y ∷ ys) t u e =
    let (b, x, f, d, _) = digits-first y in
    absurd (omega (arith, d, head-eq_of_cons-eq (e ∙ ap (λ (z : List ℕ). (z ++ further ys) ++ u) f)))
list_unique (x ∷ xs) [] t u e =
    let (b, y, f, d, _) = digits-first x in
    absurd (omega (arith, d, head-eq_of_cons-eq (sym e ∙ ap (λ (z : List ℕ). (z ++ further xs) ++ t) f)))
list_unique (x ∷ xs) (y ∷ ys) t u e = ending_unique (x ∷ xs) (y ∷ ys) t u (ap (λ (z : List ℕ). 32 ∷ z) e)

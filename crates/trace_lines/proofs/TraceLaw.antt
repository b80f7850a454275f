-- What each way out of the reader of a trace line gives, in terms of how traces are spelled. So no two traces are spelled alike.
use mathlib.Core.Path.{◌≡◌, refl, ap, sym, subst, ◌∙◌}
use mathlib.Core.Bool.{Bool, true, false, ◌||◌}
use mathlib.Core.Option.{none, some}
use mathlib.Core.List.{List, [], ◌∷◌, ◌++◌, append-nil, append_cancel_left, head-eq_of_cons-eq, tail-eq_of_cons-eq}
use Prim.Native.Nat.{ℕ, suc, ◌+◌, max, ◌<◌, ◌≤◌}
use native.Mathlib.Omega.{arith}
use borrow.Author.Tests.{lt-leb, le-leb, ltb-true, ltb-false}
use lib.ListN.{length, take, drop}
use lib.Seq.{sets, drop-length}
use lib.Dec.{leb, ltb}
use Rattle.trace.specs.declared.refusal.Refusal.{Refusal}
use Rattle.trace.specs.declared.refusal.Refusal.TheVariants.{LongLine, Shape, LargeLetter, ManyLetters, ListRoom}
use Rattle.std.specs.Prelude.{Option, Some, None, Result, Ok, Err}
use Rattle.std.specs.Option.{ok_or}
use Rattle.text.specs.Text.{text}
use Rattle.trace_lines.specs.Spelling.{TraceLists, trace_line, line_of_trace}
use Rattle.text.specs.Limits.{most_bytes, front}
use Rattle.text.specs.Reading.{long, breaks, spells}
use Rattle.trace_lines.specs.TraceAnswer.{large_letter, trace_limits, trace_refusal, TraceAnswer}
use Rattle.text.specs.declared.scan.Fault.{Fault}
use Rattle.text.specs.Inner.Places.{Stands, Agree, Language, Begins, Stops, StopsLine}
use Rattle.trace_lines.specs.Inner.LettersReader.{further, listed, Any, NonEmpty, Spelled, LettersStand, finite_rest, lasso_rest, whole_line, ListsRead}
use Rattle.trace_lines.specs.declared.Lengths.{Lengths}
use Rattle.text.proofs.ReadingLaw.{breaks-at, front-sets, front-take}
use Rattle.std.proofs.lemmas.Bool.{and_right}
use Rattle.text.proofs.PlaceLaw.{agree_less, halts-first, halts-after, stops_line, Nothing, stops_end}
use Rattle.text.proofs.NumberLaw.{ending_unique}
use Rattle.trace_lines.proofs.LettersLaw.{list_unique}

abbrev Both : (List ℕ → List ℕ → Language) → Language
Both F w = (lead : List ℕ) × (loop : List ℕ) × F lead loop w

-- A line that a part fills up to its end.
at_end : {w s : List ℕ} {at next : ℕ} → Stands w s at next → next ≡ length s → drop at s ≡ w
at_end {w} {s} a e = a.is ∙ ap (λ (x : List ℕ). w ++ x) (ap (λ (i : ℕ). drop i s) e ∙ drop-length s) ∙ append-nil w

-- ── After `(finite` ──

pub finite-no : {s : List ℕ} {at p : ℕ} → Stops (Spelled further Any) s at p → StopsLine (Both finite_rest) s at p
finite-no a = halts-first a (λ w (xs, _, e). ([], (xs, [], append-nil w ∙ e))) (λ s' g. dec)
  where
    dec : {x : List ℕ} → Both finite_rest x → Begins (Spelled further Any) x
    dec {x} (lead, [], e) = (x, [], (lead, tt, e), sym (append-nil x))
    dec (lead, y ∷ loop, e) = absurd e

module _ {s xs : List ℕ} {at next : ℕ} {count : Option ℕ} {l l' : List ℕ} (a : LettersStand (further xs) xs s at next (Some 0) count l l') where
  pub finite_tail : next < length s → StopsLine (Both finite_rest) s at next
  finite_tail z = halts-after a.stands (stops_end s next z) (λ x e. (xs, [], ap (λ (y : List ℕ). further xs ++ y) e ∙ append-nil (further xs))) (λ s' g. dec)
    where
      dec : {x : List ℕ} → Both finite_rest (further xs ++ x) → Nothing x
      dec {x} (lead, [], e) = (ending_unique xs lead x [] (e ∙ sym (append-nil (further lead)))).1
      dec (lead, y ∷ loop, e) = absurd e

-- ── After `(lasso (` ──

-- After the lead-in; after the loop's opening bracket; and after the loop.
abbrev AfterLead : Language
AfterLead w = (y : ℕ) × (ys : List ℕ) × (w ≡ text " (" ++ (listed (y ∷ ys) ++ text ")"))

abbrev Loop : Language
Loop w = (y : ℕ) × (ys : List ℕ) × (w ≡ listed (y ∷ ys) ++ text ")")

abbrev Close : Language
Close w = w ≡ text ")"

pub lead-no : {s : List ℕ} {at p : ℕ} → Stops (Spelled listed Any) s at p → StopsLine (Both lasso_rest) s at p
lead-no a = halts-first a (λ w (xs, _, e). (rest, (xs, 0 ∷ [], ap (λ (y : List ℕ). y ++ rest) e))) (λ s' g. dec)
  where
    rest : List ℕ
    rest = text " (" ++ (listed (0 ∷ []) ++ text ")")

    dec : {x : List ℕ} → Both lasso_rest x → Begins (Spelled listed Any) x
    dec (lead, [], e) = absurd e
    dec (lead, y ∷ loop, e) = (listed lead, text " (" ++ (listed (y ∷ loop) ++ text ")"), (lead, tt, refl), e)

module _ {s : List ℕ} (xs : List ℕ) {at next : ℕ} (a : Stands (listed xs) s at next) where
  after-lead : {p : ℕ} → StopsLine AfterLead s next p → StopsLine (Both lasso_rest) s at p
  after-lead b = halts-after a b (λ x (y, ys, e). (xs, y ∷ ys, ap (λ (z : List ℕ). listed xs ++ z) e)) (λ s' g. dec)
    where
      dec : {x : List ℕ} → Both lasso_rest (listed xs ++ x) → AfterLead x
      dec (lead, [], e) = absurd e
      dec {x} (lead, y ∷ loop, e) = (y, loop, (list_unique xs lead x _ e).1)

  pub no_loop : {p : ℕ} → Stops (λ v. v ≡ text " (") s next p → StopsLine (Both lasso_rest) s at p
  no_loop b = after-lead (halts-first b (λ v e. (listed (0 ∷ []) ++ text ")", (0, [], ap (λ (z : List ℕ). z ++ (listed (0 ∷ []) ++ text ")")) e))) (λ s' g. dec))
    where
      dec : {x : List ℕ} → AfterLead x → Begins (λ v. v ≡ text " (") x
      dec (y, ys, e) = (text " (", listed (y ∷ ys) ++ text ")", refl, e)

  module _ {mid : ℕ} (o : Stands (text " (") s next mid) where
    in_loop : {p : ℕ} → StopsLine Loop s mid p → StopsLine (Both lasso_rest) s at p
    in_loop b = after-lead (halts-after o b (λ x (y, ys, e). (y, ys, ap (λ (z : List ℕ). text " (" ++ z) e)) (λ s' g (y, ys, e). (y, ys, append_cancel_left (text " (") _ _ e)))

    pub loop-no : {p : ℕ} → Stops (Spelled listed NonEmpty) s mid p → StopsLine (Both lasso_rest) s at p
    loop-no b = in_loop (halts-first b inc (λ s' g (y, ys, e). (listed (y ∷ ys), text ")", (y ∷ ys, tt, refl), e)))
      where
        inc : (w : List ℕ) → Spelled listed NonEmpty w → (x : List ℕ) × Loop (w ++ x)
        inc w ([], h, _) = absurd h
        inc w (y ∷ ys, _, e) = (text ")", (y, ys, ap (λ (z : List ℕ). z ++ text ")") e))

    module _ (ys : List ℕ) (h : NonEmpty ys) {end : ℕ} (b : Stands (listed ys) s mid end) where
      after-loop : {p : ℕ} → StopsLine Close s end p → StopsLine (Both lasso_rest) s at p
      after-loop c = in_loop (halts-after b c (inc ys h) (λ s' g (z, zs, e). (list_unique ys (z ∷ zs) _ (text ")") e).1))
        where
          inc : (ys : List ℕ) → NonEmpty ys → (x : List ℕ) → Close x → Loop (listed ys ++ x)
          inc [] h x e = absurd h
          inc (y ∷ ys) h x e = (y, ys, ap (λ (z : List ℕ). listed (y ∷ ys) ++ z) e)

      pub lasso_open : {p : ℕ} → Stops Close s end p → StopsLine (Both lasso_rest) s at p
      lasso_open z = after-loop (stops_line z)

      pub lasso_tail : {p : ℕ} → Stands (text ")") s end p → p < length s → StopsLine (Both lasso_rest) s at p
      lasso_tail {p} e z =
          after-loop (halts-after e (stops_end s p z) (λ x d. ap (λ (u : List ℕ). 41 ∷ u) d) (λ s' g d. tail-eq_of_cons-eq d))

-- ── The whole line ──

abbrev Finite : Language
Finite w = w ≡ text "(finite"

abbrev Lasso : Language
Lasso w = w ≡ text "(lasso ("

-- The second byte tells which of the two it is.
not_both : (lead loop : List ℕ) → text "(finite" ++ lead ≡ text "(lasso (" ++ loop → ⊥
not_both lead loop e = omega (arith, head-eq_of_cons-eq (tail-eq_of_cons-eq e))

module _ (s l m l' m' : List ℕ) where
  pub finite_line : {j : ℕ} → Stands (text "(finite") s 0 j → (r : Result (Option Lengths) Fault) → ListsRead finite_rest s j l m l' m' r → ListsRead whole_line s 0 l m l' m' r
  finite_line o (Ok k) (lead, [], e, x) = (lead, [], o.is ∙ ap (λ (y : List ℕ). text "(finite" ++ y) e, x)
  finite_line o (Ok k) (lead, z ∷ loop, e, x) = absurd e
  finite_line o (Err f) b = halts-after o b inc (λ s' g. dec)
    where
      inc : (w : List ℕ) → Both finite_rest w → Both whole_line (text "(finite" ++ w)
      inc w (lead, [], e) = (lead, [], ap (λ (y : List ℕ). text "(finite" ++ y) e)
      inc w (lead, z ∷ loop, e) = absurd e

      dec : {x : List ℕ} → Both whole_line (text "(finite" ++ x) → Both finite_rest x
      dec (lead, [], e) = (lead, [], append_cancel_left (text "(finite") _ _ e)
      dec {x} (lead, z ∷ loop, e) = absurd (not_both x _ e)

  pub lasso_line : {j : ℕ} → Stands (text "(lasso (") s 0 j → (r : Result (Option Lengths) Fault) → ListsRead lasso_rest s j l m l' m' r → ListsRead whole_line s 0 l m l' m' r
  lasso_line o (Ok k) (lead, [], e, x) = absurd e
  lasso_line o (Ok k) (lead, z ∷ loop, e, x) = (lead, z ∷ loop, o.is ∙ ap (λ (y : List ℕ). text "(lasso (" ++ y) e, x)
  lasso_line o (Err f) b = halts-after o b inc (λ s' g. dec)
    where
      inc : (w : List ℕ) → Both lasso_rest w → Both whole_line (text "(lasso (" ++ w)
      inc w (lead, [], e) = absurd e
      inc w (lead, z ∷ loop, e) = (lead, z ∷ loop, ap (λ (y : List ℕ). text "(lasso (" ++ y) e)

      dec : {x : List ℕ} → Both whole_line (text "(lasso (" ++ x) → Both lasso_rest x
      dec {x} (lead, [], e) = absurd (not_both _ x (sym e))
      dec (lead, z ∷ loop, e) = (lead, z ∷ loop, append_cancel_left (text "(lasso (") _ _ e)

module _ {s : List ℕ} {p q : ℕ} (a : Stops Finite s 0 p) (b : Stops Lasso s 0 q) where
  -- Neither stands; the reader stops where the further of the two does.
  finite-not : {r : ℕ} → p ≤ r → (s' : List ℕ) → Agree (suc r) s s' → (lead : List ℕ) → s' ≡ trace_line lead [] → ⊥
  finite-not h s' g lead e = a.none s' (agree_less (omega arith) g) (text "(finite", further lead, refl, e)

  lasso_not : {r : ℕ} → q ≤ r → (s' : List ℕ) → Agree (suc r) s s' → (lead : List ℕ) (y : ℕ) (loop : List ℕ) → s' ≡ trace_line lead (y ∷ loop) → ⊥
  lasso_not h s' g lead y loop e = b.none s' (agree_less (omega arith) g) (text "(lasso (", _, refl, e)

  none-stands : {r : ℕ} → p ≤ r → q ≤ r → (s' : List ℕ) → Agree (suc r) s s' → Both whole_line s' → ⊥
  none-stands h i s' g (lead, [], e) = finite-not h s' g lead e
  none-stands h i s' g (lead, y ∷ loop, e) = lasso_not i s' g lead y loop e

  pub neither : {r : ℕ} → r ≡ max p q → StopsLine (Both whole_line) s 0 r
  neither {r} e = go (ltb p q) refl
    where
      rest : List ℕ
      rest = listed [] ++ (text " (" ++ (listed (0 ∷ []) ++ text ")"))

      no : {t : ℕ} → t ≡ r → (s' : List ℕ) → Agree (suc t) s s' → Both whole_line s' → ⊥
      no d s' g x = none-stands (omega arith) (omega arith) s' g x

      go : (c : Bool) → ltb p q ≡ c → StopsLine (Both whole_line) s 0 r
      go true u =
          let d : q ≡ r = omega (arith, ltb-true p q u) in
          subst (StopsLine (Both whole_line) s 0) d
          (halts-first b (λ w i. (rest, ([], 0 ∷ [], ap (λ (x : List ℕ). x ++ rest) i))) (λ s' g x. absurd (no d s' g x)))
      go false u =
          let d : p ≡ r = omega (arith, ltb-false p q u) in
          subst (StopsLine (Both whole_line) s 0) d
          (halts-first a (λ w i. (text ")", ([], [], ap (λ (x : List ℕ). x ++ text ")") i))) (λ s' g x. absurd (no d s' g x)))

-- ── No two traces are spelled alike ──

pub trace_injective : (lead loop lead' loop' : List ℕ) → trace_line lead loop ≡ trace_line lead' loop' → (lead ≡ lead') × (loop ≡ loop')
trace_injective lead [] lead' [] e =
    ((ending_unique lead lead' [] [] (ap (λ (x : List ℕ). x ++ []) (append_cancel_left (text "(finite") _ _ e))).0, refl)
trace_injective lead [] lead' (y ∷ loop') e = absurd (not_both _ _ e)
trace_injective lead (x ∷ loop) lead' [] e = absurd (not_both _ _ (sym e))
trace_injective lead (x ∷ loop) lead' (y ∷ loop') e =
    let (p, d) = list_unique lead lead' _ _ (append_cancel_left (text "(lasso (") _ _ e) in
    let (q, _) = list_unique (x ∷ loop) (y ∷ loop') _ _ (append_cancel_left (text " (") _ _ d) in
    (p, q)

abbrev trace : List ℕ → List ℕ → TraceLists
trace lead loop = record { lead = lead; loop = loop }

pub trace_alone : (t u : TraceLists) → line_of_trace t ≡ line_of_trace u → t ≡ u
trace_alone t u e =
    let (p, q) = trace_injective t.lead t.loop u.lead u.loop e in
    ap (λ (x : List ℕ). trace x t.loop) p ∙ ap (trace u.lead) q

-- ── The answer ──

pub too_long : (s l m : List ℕ) → most_bytes < length s → TraceAnswer s l m (Err LongLine) l m
too_long s l m h = (record { reading = long h; reason = refl }, refl, refl)

pub no-trace : (s l m : List ℕ) {p : ℕ} → length s ≤ most_bytes → StopsLine (Both whole_line) s 0 p → TraceAnswer s l m (Err (Shape p)) l m
no-trace s l m {p} h a =
    (record { reading = breaks h p (breaks-at (λ w (lead, loop, e). (trace lead loop, e)) (λ t. (t.lead, t.loop, refl)) a); reason = refl }, refl, refl)

-- Letters that were put into the list c, and copied from there into the list l.
copied : (xs c l : List ℕ) {n : ℕ} {c' l' : List ℕ} → n ≡ length xs → length xs ≤ length c → length xs ≤ length l → c' ≡ sets c 0 xs
    → l' ≡ sets l 0 (take n c') → l' ≡ front xs l
copied xs c l {n} e h g p q =
    q ∙ ap (λ (y : List ℕ). sets l 0 (take n y)) (p ∙ front-sets xs c h) ∙ ap (sets l 0) (front-take xs c n e) ∙ front-sets xs l g

-- The line spells lead and loop.
module _ {s : List ℕ} (l m lead loop : List ℕ) (h : length s ≤ most_bytes) (e : s ≡ trace_line lead loop) where
  abbrev t : TraceLists
  t = trace lead loop

  refuses : (x : Refusal) → trace_refusal (length l) (length m) t ≡ some x → TraceAnswer s l m (Err x) l m
  refuses x o = (record { reading = spells h t e; reason = o }, refl, refl)

  pub large_letter_lem : (large_letter lead || large_letter loop) ≡ true → TraceAnswer s l m (Err LargeLetter) l m
  unfolding trace_limits trace_refusal
  large_letter_lem i = refuses LargeLetter (rw i)

  -- None is too large, and k are the lengths.
  module _ (k : Lengths) (x : ((large_letter lead || large_letter loop) ≡ false) × (k.lead ≡ length lead) × (k.cycle ≡ length loop)) where
    pub many_letters : 64 < k.lead + k.cycle → TraceAnswer s l m (Err ManyLetters) l m
    unfolding trace_limits trace_refusal
    many_letters j = refuses ManyLetters (rw (x.0, lt-leb (length lead + length loop) 64 (omega (arith, x.1, x.2))))

    module _ (j : k.lead + k.cycle ≤ 64) where
      few : leb (length lead + length loop) 64 ≡ true
      few = le-leb (length lead + length loop) 64 (omega (arith, x.1, x.2))

      pub no-room-lead : length l < k.lead → TraceAnswer s l m (Err ListRoom) l m
      unfolding trace_limits trace_refusal
      no-room-lead i = refuses ListRoom (rw (x.0, few, lt-leb (length lead) (length l) (omega (arith, x.1))))

      pub no-room-loop : length m < k.cycle → TraceAnswer s l m (Err ListRoom) l m
      unfolding trace_limits trace_refusal
      no-room-loop i =
          refuses ListRoom (rw (x.0, few, and_right (leb (length lead) (length l)) (leb (length loop) (length m)) (lt-leb (length loop) (length m) (omega (arith, x.2)))))

      module _ (u : k.lead ≤ length l) (v : k.cycle ≤ length m) where
        room : trace_refusal (length l) (length m) t ≡ none
        unfolding trace_limits trace_refusal
        room = rw (x.0, few, le-leb (length lead) (length l) (omega (arith, x.1)), le-leb (length loop) (length m) (omega (arith, x.2)))

        -- They were read into the lists c and d and copied.
        pub letters-read : (c d : List ℕ) {c' d' l' m' : List ℕ} → 64 ≤ length c → 64 ≤ length d → c' ≡ sets c 0 lead → d' ≡ sets d 0 loop
            → l' ≡ sets l 0 (take k.lead c') → m' ≡ sets m 0 (take k.cycle d') → TraceAnswer s l m (Ok k) l' m'
        letters-read c d i i' p p' q q' = (
          t,
          record { short = h; is = e; within = room },
          x.1,
          x.2,
          copied lead c l x.1 (omega (arith, x.1)) (omega (arith, x.1)) p q,
          copied loop d m x.2 (omega (arith, x.2)) (omega (arith, x.2)) p' q',
        )

pub large_refused : {s : List ℕ} (l m c d c' d' : List ℕ) {x : Refusal} → length s ≤ most_bytes → (r : Option Lengths)
    → ListsRead whole_line s 0 c d c' d' (Ok r) → ok_or r LargeLetter ≡ Err x → TraceAnswer s l m (Err x) l m
large_refused {s} l m c d c' d' {x = x} h None (lead, loop, e, a) g =
    let q : LargeLetter ≡ x = cc in subst (λ (y : Refusal). TraceAnswer s l m (Err y) l m) q (large_letter_lem l m lead loop h e a)
large_refused l m c d c' d' h (Some k) a g = cc

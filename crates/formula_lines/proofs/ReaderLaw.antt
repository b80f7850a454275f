-- What each way out of the two readers of forms, which call each other, gives.
use mathlib.Core.Path.{◌≡◌, refl, ap, sym, subst, ◌∙◌}
use mathlib.Core.Logic.{◌⊎◌, inl, inr}
use mathlib.Core.Bool.{Bool, true, false, not, ◌||◌}
use mathlib.Core.List.{List, [], ◌∷◌, ◌++◌, append_assoc, append-nil, head-eq_of_cons-eq, tail-eq_of_cons-eq}
use Prim.Native.Nat.{ℕ, zero, suc, ◌+◌, ◌*◌, ◌-◌, ◌≤◌}
use native.Mathlib.Omega.{arith}
use borrow.Author.Tests.{le-leb, lt-leb}
use lib.ListN.{drop}
use lib.Seq.{sets}
use lib.Dec.{T, leb}
use Rattle.std.specs.Prelude.{Option, Some, None, unwrap_or, is_some}
use Rattle.logic.specs.Letter.{signals}
use Rattle.text.specs.Text.{text}
use Rattle.text.specs.Spelling.{digits}
use Rattle.text.specs.Inner.Places.{Stands, Agree, Language, Begins, Halts, Stops, Only}
use Rattle.text.specs.Inner.Number.{Numeral, Numbered}
use Rattle.text.specs.Inner.Scan.{Counts, NumberStands}
use Rattle.formula_lines.specs.Inner.Kinds.{keyword, arity, left_sort, right_sort, kinds}
use Rattle.formula_lines.specs.Inner.Writes.{Writes, leaf, ahead}
use Rattle.formula_lines.specs.Inner.Form.{Form, truth, signal, one, two, Sorted, OfKind, bytes, inner, nodes_from, wide}
use Rattle.text.specs.Inner.Words.{elem}
use Rattle.formula_lines.specs.Inner.Reader.{KeywordOf, NoneOf, PutBetween, ClosesOne, TwoStand, ClosesTwo, InBrackets, FormOf, OperandsOf, FormStands, Ended, OperandsStand}
use Rattle.text.proofs.PlaceLaw.{agree_less, stands_join, stands_end, stops_first, halts-first, begins-first, halts-after}
use Rattle.text.proofs.ScanLaw.{no-digit-agree}
use Rattle.formula_lines.proofs.WritesLaw.{writes-where}
use Rattle.formula_lines.proofs.FormLaw.{View, view, kind_fact, kind-sorted, kind-bytes, none_of, one_of, two_of, form_unique, operands_unique, sample, sample_sorted, sample_open, kind_sample, open_bytes, word-kind, var-arity}
use Rattle.std.proofs.lemmas.Bool.{or_parts}

some-form : (so : ℕ) → FormOf so (bytes (sample so))
some-form so = (sample so, sample_sorted so, refl)

-- ── `true` ──

module _ {s : List ℕ} {at : ℕ} (z : Stops (Only 40) s at at) where
  -- Where no Boolean is due, every form opens with a bracket.
  pub true-not_due : (so : ℕ) → (so ≡ 0 → ⊥) → Stops (FormOf so) s at at
  true-not_due so n = stops_first z heads (bytes (sample so)) (some-form so)
    where
      heads : (w : List ℕ) → FormOf so w → (x : List ℕ) × (w ≡ 40 ∷ x)
      heads w (f, sf, e) = go (view f so sf)
        where
          go : View so f → (x : List ℕ) × (w ≡ 40 ∷ x)
          go (inl (_, y)) = absurd (n y)
          go (inr b) = (keyword b.kind ++ (inner f ++ (41 ∷ [])), e ∙ kind-bytes f b.kind b.is)

  pub true-part : {p : ℕ} → Stops (λ w. w ≡ text "true") s at p → Stops (FormOf 0) s at p
  unfolding bytes
  true-part {p} a = halts-first a (λ w e. ([], (truth, refl, append-nil w ∙ e))) dec
    where
      dec : (s' : List ℕ) → Agree (suc p) s s' → Begins (FormOf 0) (drop at s') → Begins (λ w. w ≡ text "true") (drop at s')
      dec s' g (w, t, (f, sf, d), i) = go (view f 0 sf)
        where
          go : View 0 f → Begins (λ w. w ≡ text "true") (drop at s')
          go (inl (y, _)) = (w, t, d ∙ ap bytes y, i)
          go (inr b) =
              absurd
              (z.none s' (agree_less (omega (arith, a.after)) g)
              (40 ∷ [], keyword b.kind ++ (inner f ++ (41 ∷ t)), refl, i ∙ ap (λ (x : List ℕ). x ++ t) d ∙ open_bytes f b.kind t b.is))

pub true-stands : {s : List ℕ} {at n p m : ℕ} {l l' : List ℕ} → Stands (text "true") s at p → Writes false (leaf 0 0 n) n l m l'
    → FormStands truth s at n p m false l l'
unfolding bytes nodes_from wide
true-stands a w = let i = stands_end a in record { stands = a; more = omega arith; signals = refl; writes = w }

-- ── A signal ──

pub signal-no : {s : List ℕ} {at p : ℕ} → Halts Numeral Numbered s at p → Stops (OperandsOf 1) s at p
signal-no a = halts-first a (λ w (n, e). (41 ∷ [], (signal n, refl, ap (λ (x : List ℕ). x ++ (41 ∷ [])) e))) (λ s' g. dec)
  where
    dec : {x : List ℕ} → Begins (OperandsOf 1) x → Numbered x
    dec (w, t, (f, h, e), d) =
        let (n, i) = none_of f 1 h var-arity in (
          n,
          41 ∷ t,
          (λ b. omega (arith, b)),
          d ∙ ap (λ (y : List ℕ). y ++ t) (e ∙ ap (λ (g : Form). inner g ++ (41 ∷ [])) i) ∙ append_assoc (digits n) (41 ∷ []) t,
        )

module _ {s : List ℕ} {at n next v m : ℕ} {l l' : List ℕ} (a : NumberStands v s at next) where
  -- left holds the signal where it is not too large.
  signal-stands : (left : ℕ) (large : Bool) → Writes false (leaf 1 left n) n l m l' → large ≡ leb signals v → (large ≡ false → left ≡ v)
      → OperandsStand (signal v) s at n next m large l l'
  unfolding nodes_from wide
  signal-stands left large w b c =
      record {
        stands = a.stands;
        ended = a.ends;
        more = a.more;
        signals = b;
        writes = record { counts = w.counts; writes = λ x h. w.writes refl h ∙ ap (λ (i : ℕ). sets l (3 * n) (1 ∷ i ∷ 0 ∷ [])) (c x) };
      }

  pub signal_read : (o : Option ℕ) (large : Bool) → Writes false (leaf 1 (unwrap_or o 0) n) n l m l' → is_some o ≡ not large → Counts (signals - 1) v o
      → (f : Form) × OfKind 1 f × OperandsStand f s at n next m large l l'
  signal_read (Some i) false w e g = (signal v, refl, signal-stands i false w (sym (lt-leb signals v (omega (arith, g.0, g.1)))) (λ _. sym g.0))
  signal_read (Some i) true w e g = cc
  signal_read None true w e g = (signal v, refl, signal-stands 0 true w (sym (le-leb signals v (omega (arith, g)))) (λ i. cc))
  signal_read None false w e g = cc

-- ── A form in brackets ──

pub no_word : {s : List ℕ} {at mid : ℕ} (so : ℕ) {p : ℕ} → Stands (40 ∷ []) s at mid → NoneOf (kinds so) s mid p → Stops (FormOf so) s at p
no_word so o a = halts-after o (halts-first {L = λ w. FormOf so (40 ∷ w)} {R = λ x. Begins (FormOf so) (40 ∷ x)} a inc (λ s' g. dec)) (λ w l. l) (λ s' g b. b)
  where
    inc : (w : List ℕ) → (w ≡ []) ⊎ KeywordOf (kinds so) w → (x : List ℕ) × FormOf so (40 ∷ (w ++ x))
    inc w (inl e) =
        let (x, d) = sample_open so in
        (x, (sample so, sample_sorted so, ap (λ (y : List ℕ). 40 ∷ (y ++ x)) e ∙ sym d))
    inc w (inr (k, m, e)) =
        let (f, h) = kind_sample so k m in (
          inner f ++ (41 ∷ []),
          (f, kind-sorted f k so m h, ap (λ (y : List ℕ). 40 ∷ (y ++ (inner f ++ (41 ∷ [])))) e ∙ sym (kind-bytes f k h)),
        )

    dec : {x : List ℕ} → Begins (FormOf so) (40 ∷ x) → Begins (KeywordOf (kinds so)) x
    dec {x} (w, t, (f, sf, e), d) = go (view f so sf)
      where
        i : 40 ∷ x ≡ bytes f ++ t
        i = d ∙ ap (λ (y : List ℕ). y ++ t) e

        go : View so f → Begins (KeywordOf (kinds so)) x
        go (inl (y, _)) = unfold bytes in absurd (omega (arith, head-eq_of_cons-eq (i ∙ ap (λ (g : Form). bytes g ++ t) y)))
        go (inr b) = (keyword b.kind, inner f ++ (41 ∷ t), (b.kind, b.member, refl), tail-eq_of_cons-eq (i ∙ open_bytes f b.kind t b.is))

-- The bracket and the keyword of kind k have been read.
pub record Entered (s : List ℕ) (at so k next : ℕ) : Type 0 where
  pub mid : ℕ
  pub opened : Stands (40 ∷ []) s at mid
  pub member : T (elem k (kinds so))
  pub named : Stands (keyword k) s mid next

module _ {s : List ℕ} {at so k next : ℕ} (E : Entered s at so k next) where
  m : T (elem k (kinds so))
  m = E.member

  pub no_operands : {p : ℕ} → Stops (OperandsOf k) s next p → Stops (FormOf so) s at p
  no_operands {p} b = halts-after (stands_join E.opened E.named) b inc dec
    where
      inc : (w : List ℕ) → OperandsOf k w → FormOf so (40 ∷ (keyword k ++ w))
      inc w (f, h, e) = (f, kind-sorted f k so m h, ap (λ (y : List ℕ). 40 ∷ (keyword k ++ y)) e ∙ sym (kind-bytes f k h))

      dec : (s' : List ℕ) → Agree (suc p) s s' → Begins (FormOf so) (40 ∷ (keyword k ++ drop next s')) → Begins (OperandsOf k) (drop next s')
      dec s' g (w, t, (f, sf, e), d) =
          let (h, i) = word-kind so k m f sf (drop next s') t (d ∙ ap (λ (y : List ℕ). y ++ t) e) in
          (inner f ++ (41 ∷ []), t, (f, h, refl), i ∙ sym (append_assoc (inner f) (41 ∷ []) t))

  module _ {f : Form} (h : OfKind k f) {n end nodes : ℕ} {large : Bool} {l l' : List ℕ} (b : OperandsStand f s next n end nodes large l l') where
    pub no_bracket : {p : ℕ} → Stops (Only 41) s end p → Stops (FormOf so) s at p
    no_bracket {p} shut = no_operands (halts-after b.stands shut inc dec)
      where
        inc : (w : List ℕ) → w ≡ 41 ∷ [] → OperandsOf k (inner f ++ w)
        inc w e = (f, h, ap (λ (y : List ℕ). inner f ++ y) e)

        ended : (f : Form) (s' : List ℕ) → Agree (suc p) s s' → Ended f (drop end s) → Ended f (drop end s')
        ended truth s' g e = tt
        ended (signal v) s' g e = no-digit-agree end (omega (arith, shut.after)) g e
        ended (one i x) s' g e = tt
        ended (two i x y) s' g e = tt

        dec : (s' : List ℕ) → Agree (suc p) s s' → Begins (OperandsOf k) (inner f ++ drop end s') → Begins (Only 41) (drop end s')
        dec s' g (w, t, (x, i, e), d) =
            let (_, u) =
            operands_unique f x k (drop end s') t h i (ended f s' g b.ended)
            (d ∙ ap (λ (y : List ℕ). y ++ t) e ∙ append_assoc (inner x) (41 ∷ []) t) in
            (41 ∷ [], t, refl, u)

    pub closes : {last : ℕ} → Stands (41 ∷ []) s end last → (f : Form) × Sorted so f × FormStands f s at n last nodes large l l'
    closes {last} q =
        let e : last ≡ end + 1 = stands_end q in (
          f,
          kind-sorted f k so m h,
          record {
            stands = subst (λ (y : List ℕ). Stands y s at last) (simp append_assoc (sym (kind-bytes f k h))) (stands_join (stands_join (stands_join E.opened E.named) b.stands) q);
            more = omega (arith, b.more, E.opened.after, E.named.after);
            signals = b.signals;
            writes = b.writes;
          },
        )

-- ── Once more ──

-- Where a form stands it is read, and it alone.
pub reads : {s : List ℕ} {at next p : ℕ} (f : Form) (so : ℕ) → Sorted so f → Stands (bytes f) s at next → Stops (FormOf so) s at p → ⊥
reads {s} {next = next} f so sf a z = z.none s (record { is = refl }) (bytes f, drop next s, (f, sf, refl), a.is)

pub read-again : {s : List ℕ} {at n next last nodes : ℕ} {large : Bool} {l l' : List ℕ} (b : Bool) (f g : Form) (so : ℕ) → Sorted so f → Stands (bytes f) s at next
    → (b ≡ false → wide f ≡ false) → Sorted so g → FormStands g s at n last nodes large l l' → Writes b (nodes_from f n) n l nodes l'
read-again {s} {n = n} {next} {last} {nodes} {l = l} {l'} b f g so sf a small sg c =
    let e : f ≡ g = (form_unique f g so (drop next s) (drop last s) sf sg (sym a.is ∙ c.stands.is)).0 in
    subst (λ (x : Form). Writes b (nodes_from x n) n l nodes l') (sym e) (writes-where (λ x. c.signals ∙ ap wide (sym e) ∙ small x) c.writes)

-- ── Operands ──

-- The second operand, from the space before it to the closing bracket.
abbrev Second : ℕ → Language
Second k w = (g : Form) × Sorted (right_sort k) g × (w ≡ 32 ∷ (bytes g ++ (41 ∷ [])))

module _ {s : List ℕ} {at : ℕ} (k : ℕ) where
  pub first-no : InBrackets k → (arity k ≡ 0 → ⊥) → {p : ℕ} → Stops (FormOf (left_sort k)) s at p → Stops (OperandsOf k) s at p
  first-no (so, m) z {p} a = go (arity k) refl (kind_fact so k m).most
    where
      go : (n : ℕ) → arity k ≡ n → arity k ≤ 2 → Stops (OperandsOf k) s at p
      go zero e h = absurd (z e)
      go (suc zero) e h = halts-first a (λ w (f, sf, d). (41 ∷ [], (one k f, (refl, e, sf), ap (λ (y : List ℕ). y ++ (41 ∷ [])) d))) (λ s' g. begins-first dec)
        where
          dec : (w : List ℕ) → OperandsOf k w → Begins (FormOf (left_sort k)) w
          dec w (f, i, d) =
              let (g, u, sg) = one_of f k i e in
              (bytes g, 41 ∷ [], (g, sg, refl), d ∙ ap (λ (y : List ℕ). y ++ (41 ∷ [])) u)
      go (suc (suc n)) e h =
          halts-first a (λ w (f, sf, d). (32 ∷ (bytes some ++ (41 ∷ [])), (two k f some, (refl, e₂, sf, sample_sorted (right_sort k)), inc w f d))) (λ s' g. begins-first dec)
        where
          some : Form
          some = sample (right_sort k)

          e₂ : arity k ≡ 2
          e₂ = omega arith

          inc : (w : List ℕ) (f : Form) → w ≡ bytes f → w ++ (32 ∷ (bytes some ++ (41 ∷ []))) ≡ (bytes f ++ (32 ∷ bytes some)) ++ (41 ∷ [])
          inc w f d = ap (λ (y : List ℕ). y ++ (32 ∷ (bytes some ++ (41 ∷ [])))) d ∙ sym (append_assoc (bytes f) (32 ∷ bytes some) (41 ∷ []))

          dec : (w : List ℕ) → OperandsOf k w → Begins (FormOf (left_sort k)) w
          dec w (f, i, d) =
              let (g, x, u, sg, _) = two_of f k i e₂ in
              (bytes g, 32 ∷ (bytes x ++ (41 ∷ [])), (g, sg, refl), d ∙ ap (λ (y : List ℕ). y ++ (41 ∷ [])) u ∙ append_assoc (bytes g) (32 ∷ bytes x) (41 ∷ []))

  module _ {f : Form} (sf : Sorted (left_sort k) f) {n next nodes : ℕ} {large : Bool} {l l' : List ℕ} (a : FormStands f s at n next nodes large l l') where
    -- The operand began at node n, behind what the kind has before it.
    pub one-stands : arity k ≡ 1 → {first m : ℕ} {l₀ l₁ : List ℕ} → Writes false (ahead k first) first l₀ n l → ClosesOne k n nodes l' m l₁
        → (g : Form) × OfKind k g × OperandsStand g s at first next m large l₀ l₁
    unfolding nodes_from wide
    one-stands e {first} {l₀ = l₀} u c = (
      one k f,
      (refl, e, sf),
      record {
        stands = a.stands;
        ended = tt;
        more = a.more;
        signals = a.signals;
        writes = c large (nodes_from f) first l₀ l (writes-where (λ _. refl) u) a.writes;
      },
    )

    module _ (e : arity k ≡ 2) where
      lift_second : {p : ℕ} → Stops (Second k) s next p → Stops (OperandsOf k) s at p
      lift_second {p} b = halts-after a.stands b inc dec
        where
          inc : (w : List ℕ) → Second k w → OperandsOf k (bytes f ++ w)
          inc w (g, sg, d) =
              (two k f g, (refl, e, sf, sg), ap (λ (y : List ℕ). bytes f ++ y) d ∙ sym (append_assoc (bytes f) (32 ∷ bytes g) (41 ∷ [])))

          dec : (s' : List ℕ) → Agree (suc p) s s' → Begins (OperandsOf k) (bytes f ++ drop next s') → Begins (Second k) (drop next s')
          dec s' g (w, t, (x, i, d), u) =
              let (y, z, v, sy, sz) = two_of x k i e in
              let r : bytes f ++ drop next s' ≡ bytes y ++ (32 ∷ (bytes z ++ (41 ∷ t))) = u ∙ ap (λ (q : List ℕ). q ++ t) (d ∙ ap (λ (q : List ℕ). q ++ (41 ∷ [])) v) ∙ simp append_assoc in
              let (_, c) = form_unique f y (left_sort k) (drop next s') (32 ∷ (bytes z ++ (41 ∷ t))) sf sy r in
              (32 ∷ (bytes z ++ (41 ∷ [])), t, (z, sz, refl), c ∙ ap (λ (q : List ℕ). 32 ∷ q) (sym (append_assoc (bytes z) (41 ∷ []) t)))

      pub no-space : {p : ℕ} → Stops (Only 32) s next p → Stops (OperandsOf k) s at p
      no-space z =
          lift_second
          (stops_first z (λ w (g, _, d). (bytes g ++ (41 ∷ []), d)) _ (sample (right_sort k), sample_sorted (right_sort k), refl))

      module _ {mid : ℕ} (o : Stands (32 ∷ []) s next mid) where
        pub second_no : {p : ℕ} → Stops (FormOf (right_sort k)) s mid p → Stops (OperandsOf k) s at p
        second_no b = lift_second (halts-after o (halts-first {L = λ w. Second k (32 ∷ w)} {R = λ x. Begins (Second k) (32 ∷ x)} b inc (λ s' g. dec)) (λ w c. c) (λ s' g c. c))
          where
            inc : (w : List ℕ) → FormOf (right_sort k) w → (x : List ℕ) × Second k (32 ∷ (w ++ x))
            inc w (g, sg, d) = (41 ∷ [], (g, sg, ap (λ (y : List ℕ). 32 ∷ (y ++ (41 ∷ []))) d))

            dec : {x : List ℕ} → Begins (Second k) (32 ∷ x) → Begins (FormOf (right_sort k)) x
            dec (w, t, (g, sg, d), u) =
                (bytes g, 41 ∷ t, (g, sg, refl), tail-eq_of_cons-eq (u ∙ ap (λ (y : List ℕ). y ++ t) d) ∙ append_assoc (bytes g) (41 ∷ []) t)

        -- The second operand began at node `start`, behind what the kind has between the two.
        pub two_stand : {g : Form} → Sorted (right_sort k) g → {start end all q : ℕ} {more : Bool} {l₁ l₂ l₃ : List ℕ} → PutBetween k nodes l' start l₁
            → FormStands g s mid start end all more l₁ l₂ → (b : Bool) → b ≡ (large || more) → ClosesTwo k s at mid start all l₂ q l₃
            → (x : Form) × OfKind k x × OperandsStand x s at n end q b l l₃
        unfolding nodes_from wide
        two_stand {g} sg {end = end} {more = more} {l₁} u c b d closed =
            let small : b ≡ false → (large ≡ false) × (more ≡ false) = λ x. or_parts large more (sym d ∙ x) in
            let T : TwoStand k b f g s at mid =
            record {
              two = e;
              sorted = (sf, sg);
              next = next;
              first = a.stands;
              last = end;
              second = c.stands;
              small = λ x. (sym a.signals ∙ (small x).0, sym c.signals ∙ (small x).1);
            } in (
              two k f g,
              (refl, e, sf, sg),
              record {
                stands = stands_join a.stands (stands_join o c.stands);
                ended = tt;
                more = omega (arith, a.more, o.after, c.more);
                signals = d ∙ ap (λ (y : Bool). y || more) a.signals ∙ ap (λ (y : Bool). wide f || y) c.signals;
                writes =
                    closed b f g n l l₁ T
                    (u b (nodes_from f) n l (writes-where (λ x. (small x).0) a.writes))
                    (writes-where (λ x. (small x).1) c.writes);
              },
            )

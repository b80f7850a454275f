-- What putting a text into a lent list does, and the laws of what texts are put into, a vector or a lent list: a text put behind a text is both put as one. The laws are facts for
-- the impls of `Sink`, which may cite nothing of this crate's proofs/.
use Rattle.std.specs.Prelude.{◌≡◌, List, [], ◌∷◌, ◌++◌, ℕ, zero, suc, ◌+◌, ◌-◌, ◌<◌, ◌≤◌, min, length, take, refl}
use mathlib.Core.Path.{ap, sym, ◌∙◌}
use mathlib.Core.List.{append_assoc}
use native.Mathlib.Omega.{arith}
use native.Mathlib.Decide.{dec_lt}
use lib.ListN.{length-append}
use lib.Seq.{set_out, length-sets}
use Rattle.std.proofs.lemmas.List.Edits.{sets}
use Rattle.table.proofs.StoreLaw.{sets-sets}
use Rattle.text.specs.declared.lent.Lent.{Lent}

-- The bytes w were put into the lent list from its place on, as many of them as have room; the place is behind them.
pub record Wrote (old : Lent) (w : List ℕ) (now : Lent) : Type 0 where
  pub is : now.list.now ≡ sets old.list.now old.at w
  pub ends : now.at ≡ old.at + min (length w) (length old.list.now - old.at)
  pub same_list : now.list.ghost_name ≡ old.list.ghost_name

-- ── A vector with room for n bytes: what has no room is left out ──

-- What was left out leaves no room for more.
take_cut : (n : ℕ) (l w : List ℕ) → take n (take n l ++ w) ≡ take n (l ++ w)
take_cut zero l w = refl
take_cut (suc n) [] w = refl
take_cut (suc n) (x ∷ l) w = ap (λ (y : List ℕ). x ∷ y) (take_cut n l w)

pub put_join : (n : ℕ) (l v w : List ℕ) → take n (take n (l ++ v) ++ w) ≡ take n (l ++ (v ++ w))
put_join n l v w = take_cut n (l ++ v) w ∙ ap (take n) (append_assoc l v w)

pub vector_join : (n : ℕ) (l m k v w : List ℕ) → m ≡ take n (l ++ v) → k ≡ take n (m ++ w) → k ≡ take n (l ++ (v ++ w))
vector_join n l m k v w a b = b ∙ ap (λ (x : List ℕ). take n (x ++ w)) a ∙ put_join n l v w

-- ── A lent list ──

pub sets_out : (w l : List ℕ) (i : ℕ) → length l ≤ i → sets l i w ≡ l
sets_out [] l i h = refl
sets_out (x ∷ w) l i h = ap (λ (y : List ℕ). sets y (suc i) w) (set_out l i x h) ∙ sets_out w l (suc i) (omega arith)

module _ {a b : Lent} {v : List ℕ} (p : Wrote a v b) where
  wrote_length : length b.list.now ≡ length a.list.now
  wrote_length = ap length p.is ∙ length-sets a.list.now a.at v

  -- Where not all of v has room, both places are past the list's end, and from neither is anything put.
  wrote_end : (w : List ℕ) → sets b.list.now b.at w ≡ sets b.list.now (a.at + length v) w
  wrote_end w = go (dec_lt (length a.list.now) (a.at + length v))
    where
      go : Dec (length a.list.now < a.at + length v) → sets b.list.now b.at w ≡ sets b.list.now (a.at + length v) w
      go (yes h) = sets_out w b.list.now b.at (omega (arith, p.ends, wrote_length)) ∙ sym (sets_out w b.list.now (a.at + length v) (omega (arith, wrote_length)))
      go (no h) = let e : b.at ≡ a.at + length v = omega (arith, p.ends) in ap (λ (i : ℕ). sets b.list.now i w) e

pub lent_join : (a b c : Lent) (v w : List ℕ) → Wrote a v b → Wrote b w c → Wrote a (v ++ w) c
lent_join a b c v w p q =
    record {
      is = q.is ∙ wrote_end p w ∙ ap (λ (x : List ℕ). sets x (a.at + length v) w) p.is ∙ sets-sets v w a.list.now a.at (a.at + length v) refl;
      ends = omega (arith, length-append v w, p.ends, q.ends, wrote_length p);
      same_list = q.same_list ∙ p.same_list;
    }

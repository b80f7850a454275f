-- How long the texts of answers are, and what a list keeps that has not room for all.
use mathlib.Core.Path.{◌≡◌, refl, ap, sym, ◌∙◌}
use mathlib.Core.List.{List, [], ◌∷◌, ◌++◌}
use Prim.Native.Nat.{ℕ, ◌+◌, ◌<◌, ◌≤◌}
use native.Mathlib.Omega.{arith}
use lib.ListN.{length, take, length-append}
use lib.Seq.{take_all, take_at}
use Rattle.std.specs.Prelude.{Result, Ok, Err, IsOk, OnOk, OnErr}
use Rattle.table.specs.Node.{◌▸◌}

-- A text behind bytes that leave room for it.
pub put_fits : (out w : List ℕ) {out' : List ℕ} (n m : ℕ) → out' ≡ take n (out ++ w) → length w ≤ m → length out + m ≤ n → (out' ≡ out ++ w) × (length out' ≤ length out + m)
put_fits out w n m e short room =
    let whole = e ∙ take_all n (out ++ w) (omega (arith, length-append out w)) in
    (whole, omega (arith, ap length whole, length-append out w))

-- The same where nothing stood before.
pub put_alone : (out w : List ℕ) {out' : List ℕ} (n m : ℕ) → out ≡ [] → out' ≡ take n (out ++ w) → length w ≤ m → m ≤ n → (out' ≡ w) × (length out' ≤ m)
put_alone out w n m none e short room =
    let (whole, few) = put_fits out w n m e short (omega (arith, ap length none)) in
    (whole ∙ ap (λ (x : List ℕ). x ++ w) none, omega (arith, few, ap length none))

-- A byte that is pushed where there is room.
pub pushed : {A B V : Type 0} (items : V → List ℕ) (r : Result A B) (n b : ℕ) (v v' : V) → (IsOk r → length (items v) < n) → OnOk r (items v' ≡ items v ++ b ∷ [])
    → OnErr r (v' ≡ v) → OnErr r (length (items v) ≡ n) → items v' ≡ take n (items v ▸ b)
pushed items (Ok x) n b v v' low ok err full = ok ∙ sym (take_all n (items v ▸ b) (omega (arith, low refl, length-append (items v) (b ∷ []))))
pushed items (Err x) n b v v' low ok err full = ap items err ∙ sym (take_at (items v) (b ∷ []) n full)

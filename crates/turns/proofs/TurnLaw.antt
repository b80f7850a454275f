-- What a turn gives, and that turns follow one another.
use mathlib.Core.Path.{◌≡◌, refl, ap, sym, subst, ◌∙◌}
use mathlib.Core.Bool.{true, false}
use mathlib.Core.List.{List, [], ◌∷◌, ◌++◌, append_assoc, append-nil}
use Prim.Native.Nat.{ℕ}
use Rattle.std.proofs.Common.{None, Some}
use Rattle.std.specs.Prelude.{Result, Ok, Err, OnOk}
use Rattle.std.specs.declared.option.Option.{Option}
use Rattle.std.specs.Io.KnownBytes.{Keeps, Appends, Consumes, IsAtEnd}
use Rattle.std.proofs.KnownBytes.{Appends-nil, Appends-trans, Consumes-nil, Consumes-trans, Consumes-kept}
use Rattle.answers.specs.Whole.{Runs}
use Rattle.run.specs.Inner.{Starts, goes_on, Going, Ends, Turns, no_turn, one_turn}
use Rattle.run.specs.declared.Run.{Run}
use Rattle.std.proofs.lemmas.Bool.{both_ways}
use Rattle.run.proofs.ClaimsLaw.{claims}
use Rattle.turns.specs.Turn.{Moved, Whole}

-- ── A turn ──

-- Nothing was read.
pub moved_idle : (input input' output : Option (List ℕ)) (s : Run) → goes_on s ≡ true → Keeps input input' → Moved input input' output output s s
moved_idle input input' output s m keeps =
    record {
      block = [];
      printed = [];
      takes = record {
        goes = λ _ read done a. subst (λ (x : List ℕ). Going (read ++ []) x s) (sym (append-nil done)) (subst (λ (x : List ℕ). Going x done s) (sym (append-nil read)) a);
        ends = λ h. absurd (both_ways _ h m);
      };
      reads = Consumes-kept input input input' [] (Consumes-nil input) keeps;
      writes = Appends-nil output;
      ends = λ _ h. absurd (both_ways _ h m);
    }

-- What holds anyhow holds of a success.
pub on_ok : {A B P : Type 0} (r : Result A B) → P → OnOk r P
on_ok (Ok x) p = p
on_ok (Err e) p = tt

-- ── Turns ──

-- Some turns have been made, and this is what they moved.
pub record Moving (input input' output output' : Option (List ℕ)) (s : Run) : Type 0 where
  pub read : List ℕ
  pub done : List ℕ
  pub turns : Turns read done s
  pub reads : Consumes input input' read
  pub writes : Appends output output' done

pub moving_start : (input output : Option (List ℕ)) (s : Run) → Starts s → Moving input input output output s
moving_start input output s h = record { read = []; done = []; turns = no_turn h; reads = Consumes-nil input; writes = Appends-nil output }

whole_end : (input input' output output' : Option (List ℕ)) (read block out : List ℕ) → Consumes input input' (read ++ block) → (block ≡ [] → IsAtEnd input')
    → Ends read block out → Appends output output' out → Whole input output output'
whole_end None input' output output' read block out c e r w = tt
whole_end (Some xs) None output output' read block out c e r w = absurd c
whole_end (Some xs) (Some ys) output output' read [] out c e r w =
    (out, subst (λ (x : List ℕ). Runs x out) (sym (c ∙ ap (λ (l : List ℕ). (read ++ []) ++ l) (e refl) ∙ append-nil (read ++ []) ∙ append-nil read)) r, w)
whole_end (Some xs) (Some ys) output output' read (b ∷ block) out c e r w =
    (out, subst (λ (x : List ℕ). Runs x out) (sym (c ∙ append_assoc read (b ∷ block) ys)) (r ys), w)

module _ {input input' input'' output output' output'' : Option (List ℕ)} {s r : Run} (g : Moving input input' output output' s)
    (t : Moved input' input'' output' output'' s r) where
  reads-on : Consumes input input'' (g.read ++ t.block)
  reads-on = Consumes-trans input input' input'' g.read t.block g.reads t.reads

  writes-on : Appends output output'' (g.done ++ t.printed)
  writes-on = Appends-trans output output' output'' g.done t.printed g.writes t.writes

  -- One turn more.
  pub moving_turn : goes_on r ≡ true → Moving input input'' output output'' r
  moving_turn m = record { read = g.read ++ t.block; done = g.done ++ t.printed; turns = one_turn g.turns t.takes m; reads = reads-on; writes = writes-on }

  -- The last turn.
  pub moved_whole : goes_on r ≡ false → Whole input output output''
  moved_whole m =
      whole_end input input'' output output'' g.read t.block (g.done ++ t.printed) reads-on (λ e. t.ends e m) (claims.turns g.turns t.takes m) writes-on

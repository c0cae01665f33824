-- A loop over a list does what the pieces for its items in order come to.
use Rattle.std.proofs.Common.{◌≡◌, ◌<◌, sym, ◌∙◌, ◌+◌, ℕ, List, length, get_or, drop, Result, Ok, Err, add-one, drop-cons, refl}
use Rattle.log_lines.specs.Lines.{cause_of}
use Rattle.log_specs.specs.Line.{Cause}
use Rattle.session_specs.specs.Sequence.{in_order}
use Rattle.ecu_session.specs.declared.causes.Stop.{Stop}
use Rattle.ecu_session.specs.declared.causes.Stop.TheVariants as stop
use Rattle.ecu_session.specs.Pieces.{StopsAt}

-- after the item at i, the rest goes on from what it left
pub goes_through : {S A B : Type 0} (piece : ℕ → A → B → S → Result B Cause × S) (n i : ℕ) (items : List A) (a : A) (x y : B) (s t : S)
    → i < length items → a ≡ get_or items i a → piece n a x s ≡ (Ok y, t)
    → in_order piece n (drop i items) x s ≡ in_order piece (n + 1) (drop (i + 1) items) y t
goes_through piece n i items a x y s t lt e h = rw (add-one i, drop-cons items i a, ← e, h) refl

falls : {S A B : Type 0} (piece : ℕ → A → B → S → Result B Cause × S) (n i : ℕ) (items : List A) (a : A) (x : B) (s t : S) (why : Cause)
    → i < length items → a ≡ get_or items i a → piece n a x s ≡ (Err why, t)
    → in_order piece n (drop i items) x s ≡ (Err why, t)
falls piece n i items a x s t why lt e h = rw (drop-cons items i a, ← e, h) refl

-- where a piece stops, the whole does
pub stops_at : {S A B : Type 0} (piece : ℕ → A → B → S → Result B Cause × S) (n i : ℕ) (items : List A) (a : A) (x : B) (s t : S) (e : Stop) (whole : Result B Cause × S)
    → i < length items → a ≡ get_or items i a → StopsAt e t (piece n a x s)
    → in_order piece n (drop i items) x s ≡ whole → StopsAt e t whole
stops_at piece n i items a x s t (stop.Down why) whole lt e h k = sym k ∙ falls piece n i items a x s t (cause_of why) lt e h
stops_at piece n i items a x s t stop.Memory whole lt e h k = tt

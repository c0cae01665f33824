-- Pieces one after the other.
use Rattle.std.specs.Prelude.{ℕ, List, [], ◌∷◌, Option, None, Some, Result, Ok, Err, refl, slice_get}
use Rattle.std.proofs.Common.{ap, ◌∙◌}
use Rattle.fmi_states.specs.declared.reply.Broken.{Broken}
use Rattle.fmi_states.specs.declared.reply.Broken.TheVariants.{BadReply}
use Rattle.binding_specs.specs.Pieces.{Work, Piece, follow, ◌>>=◌, gives, breaks, wanted}
use Rattle.binding_specs.specs.Exchanges.{the_number, statuses}
use Rattle.fmi_binding.specs.Coming.{Held, Comes, then_in, wanted_in, number_in, status_in}

module _ {A B : Type 0} (p : Piece A) (next : A → Piece B) (h k : Held) where
  abbrev go : Result A Broken × Work → Result B Broken × Work
  go q = follow q.0 next q.1

  pub comes_on : (l : Held) (x : A) (r : Result B Broken) → Comes p h k (Ok x) → Comes (next x) k l r → Comes (p >>= next) h l r
  comes_on l x r first second = record {
    each = λ used.
        let one = first.each used in
        let two = second.each one.0 in
        (two.0, ap go one.1 ∙ two.1);
  }

  pub comes_broken : (why : Broken) → Comes p h k (Err why) → Comes (p >>= next) h k (Err why)
  comes_broken why first = record {
    each = λ used.
        let one = first.each used in
        (one.0, ap go one.1);
  }

  -- where what comes next only looks at what it gets
  pub comes_then : (r : Result A Broken) (f : A → Result B Broken) → Comes p h k r → ((x : A) → Comes (next x) k k (f x))
      → Comes (p >>= next) h k (then_in r f)
  comes_then (Ok x) f first second = comes_on k x (f x) first (second x)
  comes_then (Err why) f first second = comes_broken why first

pub gives_comes : {A : Type 0} (x : A) (h : Held) → Comes (gives x) h h (Ok x)
gives_comes x h = record { each = λ used. (used, refl) }

pub breaks_comes : {A : Type 0} (why : Broken) (h : Held) → Comes {A = A} (breaks why) h h (Err why)
breaks_comes why h = record { each = λ used. (used, refl) }

pub wanted_comes : {A : Type 0} (why : Broken) (o : Option A) (h : Held) → Comes (wanted why o) h h (wanted_in why o)
wanted_comes why None h = breaks_comes why h
wanted_comes why (Some x) h = gives_comes x h

pub number_comes : (numbers : List ℕ) (h : Held) → Comes (the_number numbers) h h (number_in numbers)
number_comes [] h = breaks_comes BadReply h
number_comes (n ∷ []) h = gives_comes n h
number_comes (n ∷ m ∷ ns) h = breaks_comes BadReply h

pub status_comes : (numbers : List ℕ) (h : Held) → Comes (the_number numbers >>= λ n. wanted BadReply (slice_get statuses n)) h h
    (status_in numbers)
status_comes numbers h =
    comes_then (the_number numbers) (λ n. wanted BadReply (slice_get statuses n)) h h (number_in numbers)
    (λ n. wanted_in BadReply (slice_get statuses n))
    (number_comes numbers h) (λ n. wanted_comes BadReply (slice_get statuses n) h)

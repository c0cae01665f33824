-- Lemmas, with nothing to believe: one write behind another.
use Rattle.std.specs.Prelude.{◌≡◌, ℕ, ◌+◌, List, [], ◌∷◌, ◌++◌, Option, Some, None, length, refl}
use Rattle.std.proofs.Common.{sym, ap, ◌∙◌, append_assoc, arith, length-append}
use Rattle.std.proofs.lemmas.List.{append-nil}
use Rattle.std.proofs.lemmas.Grind.{flat_map-append}
use Rattle.bench_outside.specs.Causes.{count_after}
use Rattle.bench_outside.specs.Sink.{Appended, AppendedPart, Counted}
use Rattle.bench_outside.specs.declared.sink.Sink.{Ghosts}
use Rattle.bench_outside.specs.Pieces.{joined, WritesAll, BreaksOff, StopsBefore}

appended-nothing : (told : Option (List ℕ)) → Appended told told []
appended-nothing None = refl
appended-nothing (Some written) = ap (λ t. Some t) (sym (append-nil written))

appended-twice : (first second third : Option (List ℕ)) (a b : List ℕ)
    → Appended first second a → Appended second third b → Appended first third (a ++ b)
appended-twice None second third a b p q = rw (q, p) refl
appended-twice (Some w) second third a b p q = rw (q, p) (ap (λ t. Some t) (append_assoc w a b))

count_after-twice : (count a b : ℕ) → count_after (count_after count a) b ≡ count_after count (a + b)
count_after-twice count a b = omega arith

counted-nothing : (n : ℕ) → n ≡ count_after n 0
counted-nothing n = omega arith

counted-none : (told : Option ℕ) → Counted told told 0
counted-none None = refl
counted-none (Some n) = ap (λ m. Some m) (counted-nothing n)

counted-twice : (first second third : Option ℕ) (a b : ℕ)
    → Counted first second a → Counted second third b → Counted first third (a + b)
counted-twice None second third a b p q = rw (q, p) refl
counted-twice (Some n) second third a b p q = rw (q, p) (ap (λ m. Some m) (count_after-twice n a b))

joined-append : (ps qs : List (List ℕ)) → joined (ps ++ qs) ≡ joined ps ++ joined qs
joined-append ps qs = flat_map-append (λ piece. piece) ps qs

module _ {S : Type 0} (sink : Ghosts S) where
  pub writes_nothing : (s : S) → WritesAll sink s s []
  writes_nothing s = record { bytes = appended-nothing (sink.written s); made = counted-none (sink.writes s) }

  pub writes_one : (a b : S) (piece : List ℕ) → Appended (sink.written a) (sink.written b) piece
      → Counted (sink.writes a) (sink.writes b) 1 → WritesAll sink a b (piece ∷ [])
  writes_one a b piece wrote made = record { bytes = rw (append-nil piece) wrote; made = made }

  pub writes_behind : (a b c : S) (ps qs : List (List ℕ))
      → WritesAll sink a b ps → WritesAll sink b c qs → WritesAll sink a c (ps ++ qs)
  writes_behind a b c ps qs first second = record {
    bytes = rw (joined-append ps qs)
        (appended-twice _ (sink.written b) _ (joined ps) (joined qs) first.bytes second.bytes);
    made = rw (length-append ps qs)
        (counted-twice _ (sink.writes b) _ (length ps) (length qs) first.made second.made);
  }

  pub breaks_one : (a b : S) (piece : List ℕ) → AppendedPart (sink.written a) (sink.written b) piece
      → Counted (sink.writes a) (sink.writes b) 1 → BreaksOff sink a b (piece ∷ [])
  breaks_one a b piece wrote made = record {
    whole = [];
    next = piece;
    rest = [];
    order = refl;
    part = wrote.0;
    begins = wrote.1;
    bytes = wrote.2;
    made = made;
  }

  -- pieces that were written, a break in those behind them, and pieces that weren't reached
  pub breaks_behind : (a b c : S) (ps qs rs all : List (List ℕ)) → WritesAll sink a b ps
      → BreaksOff sink b c qs → ps ++ (qs ++ rs) ≡ all → BreaksOff sink a c all
  breaks_behind a b c ps qs rs all first second whole = record {
    whole = ps ++ second.whole;
    next = second.next;
    rest = second.rest ++ rs;
    order = sym whole ∙ ap (λ x. ps ++ (x ++ rs)) second.order
        ∙ ap (λ x. ps ++ x) (append_assoc second.whole (second.next ∷ second.rest) rs)
        ∙ sym (append_assoc ps second.whole (second.next ∷ (second.rest ++ rs)));
    part = second.part;
    begins = second.begins;
    bytes = rw (joined-append ps second.whole, append_assoc (joined ps) (joined second.whole) second.part)
        (appended-twice _ (sink.written b) _ (joined ps) (joined second.whole ++ second.part) first.bytes second.bytes);
    made = rw (length-append ps second.whole, count-assoc (length ps) (length second.whole))
        (counted-twice _ (sink.writes b) _ (length ps) (length second.whole + 1) first.made second.made);
  }
    where
      count-assoc : (m n : ℕ) → (m + n) + 1 ≡ m + (n + 1)
      count-assoc m n = omega arith

  -- pieces that were written, and nothing behind them
  pub stops_behind : (a b c : S) (ps qs rs all : List (List ℕ)) → WritesAll sink a b ps
      → StopsBefore sink b c qs → ps ++ (qs ++ rs) ≡ all → StopsBefore sink a c all
  stops_behind a b c ps qs rs all first second whole = record {
    whole = ps ++ second.whole;
    rest = second.rest ++ rs;
    order = sym whole ∙ ap (λ x. ps ++ (x ++ rs)) second.order
        ∙ ap (λ x. ps ++ x) (append_assoc second.whole second.rest rs)
        ∙ sym (append_assoc ps second.whole (second.rest ++ rs));
    written = writes_behind a b c ps second.whole first second.written;
  }

  pub stops_at : (a b : S) (ps rs all : List (List ℕ)) → WritesAll sink a b ps → ps ++ rs ≡ all
      → StopsBefore sink a b all
  stops_at a b ps rs all first whole = record { whole = ps; rest = rs; order = sym whole; written = first }

  -- nothing was written at all
  pub stops_untouched : (s : S) (all : List (List ℕ)) → StopsBefore sink s s all
  stops_untouched s all = stops_at s s [] all all (writes_nothing s) refl

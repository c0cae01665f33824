-- The lines that were written, and those behind them.
use Rattle.std.proofs.Common.{◌≡◌, ◌≤◌, ◌<◌, ◌+◌, ℕ, List, [], ◌∷◌, ◌++◌, map, take, drop, length, get_or, refl, sym, ap, append_assoc, append-nil, subst, ◌∙◌}
use Rattle.std.proofs.lemmas.List.{map-append, take_more, at_drop_more, take-append-drop}
use Rattle.std.specs.Prelude.{Result, Ok, Err, OnOk, IfOk}
use Rattle.bench_outside.specs.declared.sink.Sink.{Ghosts}
use Rattle.bench_outside.specs.Pieces.{WritesAll, BreaksOff, StopsBefore}
use Rattle.bench_outside.specs.PieceSteps.{writes_behind, breaks_behind, stops_at, stops_behind}
use Rattle.bench_outside.specs.Causes.{Rose}
use Rattle.log_writing.specs.declared.ending.RunError.{RunError}
use Rattle.log_writing.specs.Written.{WritesOrBreaksOff}

-- one line more
pub take-line : {L : Type 0} (lines : List L) (i : ℕ) (line : L) → i < length lines → line ≡ get_or lines i line
    → take i lines ++ line ∷ [] ≡ take (i + 1) lines
take-line lines i line below here = ap (λ x. take i lines ++ x ∷ []) here ∙ sym (take_more lines i line below)

-- the lines so far, this one, and those behind it
pub split-lines : {L : Type 0} (lines : List L) (i : ℕ) (line : L) → i < length lines → line ≡ get_or lines i line
    → (take i lines ++ line ∷ []) ++ drop (i + 1) lines ≡ lines
split-lines lines i line below here =
    append_assoc (take i lines) (line ∷ []) (drop (i + 1) lines)
    ∙ ap (λ x. take i lines ++ x ∷ drop (i + 1) lines) here
    ∙ ap (λ t. take i lines ++ t) (sym (at_drop_more (λ t. t) lines i line below))
    ∙ take-append-drop i lines

-- texts of what lines stand for
pub texts-of : {L M : Type 0} (text : M → List ℕ) (line : L → M) (lines : List L)
    → map (λ l. text (line l)) lines ≡ map text (map line lines)
texts-of text line [] = refl
texts-of text line (l ∷ ls) = ap (λ t. text (line l) ∷ t) (texts-of text line ls)

module _ {S L : Type 0} (sink : Ghosts S) (text : L → List ℕ) where
  pieces : (before next all : List L) → before ++ next ≡ all → map text before ++ map text next ≡ map text all
  pieces before next all whole = sym (map-append text before next) ∙ ap (map text) whole

  three-pieces : (before next rest all : List L) → (before ++ next) ++ rest ≡ all
      → map text before ++ (map text next ++ map text rest) ≡ map text all
  three-pieces before next rest all whole =
      ap (λ t. map text before ++ t) (pieces next rest (next ++ rest) refl)
      ∙ pieces before (next ++ rest) all (sym (append_assoc before next rest) ∙ whole)

  pub wrote-behind : (a b c : S) (before next all : List L) → before ++ next ≡ all
      → WritesAll sink a b (map text before) → WritesAll sink b c (map text next) → WritesAll sink a c (map text all)
  wrote-behind a b c before next all whole first second =
      rw (← pieces before next all whole) (writes_behind sink a b c (map text before) (map text next) first second)

  pub broke-behind : (a b c : S) (before next rest all : List L) → (before ++ next) ++ rest ≡ all
      → WritesAll sink a b (map text before) → BreaksOff sink b c (map text next) → BreaksOff sink a c (map text all)
  broke-behind a b c before next rest all whole first second =
      breaks_behind sink a b c (map text before) (map text next) (map text rest) (map text all) first second
      (three-pieces before next rest all whole)

  pub stopped-behind : (a b c : S) (before next rest all : List L) → (before ++ next) ++ rest ≡ all
      → WritesAll sink a b (map text before) → StopsBefore sink b c (map text next) → StopsBefore sink a c (map text all)
  stopped-behind a b c before next rest all whole first second =
      stops_behind sink a b c (map text before) (map text next) (map text rest) (map text all) first second
      (three-pieces before next rest all whole)

  pub stopped-at : (a b : S) (before rest all : List L) → before ++ rest ≡ all
      → WritesAll sink a b (map text before) → StopsBefore sink a b (map text all)
  stopped-at a b before rest all whole first =
      stops_at sink a b (map text before) (map text rest) (map text all) first (pieces before rest all whole)

pub on_ok : {T E : Type 0} {P Q : Type 0} (r : Result T E) → (P → Q) → OnOk r P → OnOk r Q
on_ok (Ok x) f h = f h
on_ok (Err e) f h = tt

pub if_ok : {T E : Type 0} {P Q : T → Type 0} (r : Result T E) → ((x : T) → P x → Q x) → IfOk r P → IfOk r Q
if_ok (Ok x) f h = f x h
if_ok (Err e) f h = tt

-- a call that writes all that is left, behind lines that were written
pub written-behind : {S L T : Type 0} (sink : Ghosts S) (text : L → List ℕ) (a b c : S) (before next all : List L) (result : Result T RunError)
    → before ++ next ≡ all → WritesAll sink a b (map text before) → sink.faults b ≡ sink.faults a
    → WritesOrBreaksOff sink b c (map text next) result → WritesOrBreaksOff sink a c (map text all) result
written-behind sink text a b c before next all result whole first same second = record {
  log = on_ok result (wrote-behind sink text a b c before next all whole first) second.log;
  part = λ unwritten. broke-behind sink text a b c before next [] all (append-nil (before ++ next) ∙ whole) first (second.part unwritten);
  stopped = λ memory. stopped-behind sink text a b c before next [] all (append-nil (before ++ next) ∙ whole) first (second.stopped memory);
  unwritten = λ unwritten. subst (λ n. Rose n (sink.faults c)) same (second.unwritten unwritten);
  memory = λ memory. second.memory memory ∙ same;
  kept = on_ok result (λ kept. kept ∙ same) second.kept;
  later = subst (λ n. n ≤ sink.faults c) same second.later;
}

-- Each file is read as exactly one answer, and the walk finds it.
use Rattle.std.proofs.Common.{◌≡◌, ◌≤◌, ℕ, ◌+◌, ◌==◌, true, false, List, [], ◌∷◌, ◌++◌, ◌⊎◌, inl, inr, length, Option, Some, None, Result, Ok, Err, refl, sym, ap, subst, ◌∙◌, arith, append_assoc, length-append}
use Rattle.std.specs.Prelude.{option_and_then}
use Rattle.std.proofs.lemmas.Bool.Decides.{nat_tests}
use Rattle.std.proofs.lemmas.List.{append-nil}
use Rattle.std.proofs.lemmas.List.Concat.{flat_map-cons}
use Rattle.log_specs.specs.Line.{joined}
use Rattle.plain_text.specs.Parts.{parts, words_of}
use Rattle.play_specs.specs.Play.{Play}
use Rattle.play_specs.specs.PlayText.{text_lines, ended, play_text}
use Rattle.play_specs.specs.PlayReading.{Begins, IsFirstBadLine, IsReadAs}
use Rattle.play_specs.specs.WrongReaders.{idle, idle-IsPlay}
use Rattle.play_file.specs.Walk.{header_of, step, steps, play_of_lines, taken, walk_lines, walk_parts, walk}
use Rattle.plain_text.proofs.Separators.{Without, AllWithout, parts_without, some_part, joined_parts}
use Rattle.play_file.proofs.Steps.{Reads, header_read, step_read}
use Rattle.play_file.proofs.Written.{lines_taken, lines_plain}

-- ---- lines of a text

feed_is_none : (b : ℕ) → 10 ≡ b → (b == 10) ≡ false → ⊥
feed_is_none b same other = let e : (b == 10) ≡ true = grind (arith, nat_tests) in let never : true ≡ false = sym e ∙ other in cc

pub same_line : (x y s t : List ℕ) → Without 10 x → Without 10 y → x ++ 10 ∷ s ≡ y ++ 10 ∷ t → (x ≡ y) × (s ≡ t)
same_line [] [] s t wx wy same = (refl, cc)
same_line [] (b ∷ bs) s t wx wy same = let e : 10 ≡ b = cc in absurd (feed_is_none b e wy.0)
same_line (b ∷ bs) [] s t wx wy same = let e : 10 ≡ b = cc in absurd (feed_is_none b e wx.0)
same_line (b ∷ bs) (c ∷ cs) s t wx wy same =
    let first : b ≡ c = cc in
    let rest = same_line bs cs s t wx.1 wy.1 (cc) in
    (cc (first, rest.0), rest.1)

pub no_line : (u line rest : List ℕ) → Without 10 u → u ≡ line ++ 10 ∷ rest → ⊥
no_line [] [] rest none is = cc
no_line [] (c ∷ cs) rest none is = cc
no_line (b ∷ bs) [] rest none is = let e : 10 ≡ b = cc in feed_is_none b e none.0
no_line (b ∷ bs) (c ∷ cs) rest none is = no_line bs cs rest none.1 (cc)

pub no_line_in_nothing : (line rest : List ℕ) → [] ≡ line ++ 10 ∷ rest → ⊥
no_line_in_nothing line rest is = no_line [] line rest tt is

pub ended-cons : (x : List ℕ) (xs : List (List ℕ)) (u : List ℕ) → ended (x ∷ xs) ++ u ≡ x ++ 10 ∷ (ended xs ++ u)
ended-cons x xs u = ap (λ ys. ys ++ u) (flat_map-cons (λ (line : List ℕ). line ++ 10 ∷ []) x xs ∙ append_assoc x (10 ∷ []) (ended xs)) ∙ append_assoc x (10 ∷ ended xs) u

ended-push : (xs : List (List ℕ)) (x u : List ℕ) → ended (xs ++ x ∷ []) ++ u ≡ ended xs ++ (x ++ 10 ∷ u)
ended-push [] x u = ended-cons x [] u
ended-push (y ∷ ys) x u = ended-cons y (ys ++ x ∷ []) u ∙ ap (λ bs. y ++ 10 ∷ bs) (ended-push ys x u) ∙ sym (ended-cons y ys (x ++ 10 ∷ u))

-- the first lines go on with a line that the other text has behind its own
record Longer (xs ys : List (List ℕ)) (u v : List ℕ) : Type 0 where
  line : List ℕ
  more : List (List ℕ)
  is : xs ≡ ys ++ line ∷ more
  left : v ≡ line ++ 10 ∷ (ended more ++ u)

Longer-cons : (x y : List ℕ) (xs ys : List (List ℕ)) (u v : List ℕ) → x ≡ y → Longer xs ys u v → Longer (x ∷ xs) (y ∷ ys) u v
Longer-cons x y xs ys u v same longer = record { line = longer.line; more = longer.more; is = cc (same, longer.is); left = longer.left }

compare : (xs ys : List (List ℕ)) (u v : List ℕ) → AllWithout 10 xs → AllWithout 10 ys → ended xs ++ u ≡ ended ys ++ v
    → ((xs ≡ ys) × (u ≡ v)) ⊎ (Longer xs ys u v ⊎ Longer ys xs v u)
compare [] [] u v px py same = inl (refl, same)
compare (x ∷ xs) [] u v px py same = inr (inl (record { line = x; more = xs; is = refl; left = sym same ∙ ended-cons x xs u }))
compare [] (y ∷ ys) u v px py same = inr (inr (record { line = y; more = ys; is = refl; left = same ∙ ended-cons y ys v }))
compare (x ∷ xs) (y ∷ ys) u v px py same =
    let first = same_line x y (ended xs ++ u) (ended ys ++ v) px.0 py.0 (sym (ended-cons x xs u) ∙ same ∙ ended-cons y ys v) in
    elim (compare xs ys u v px.1 py.1 first.1) [
      | inl e ↦ inl (cc (first.0, e.0), e.1)
      | inr (inl longer) ↦ inr (inl (Longer-cons x y xs ys u v first.0 longer))
      | inr (inr longer) ↦ inr (inr (Longer-cons y x ys xs v u (sym first.0) longer))
    ]

plain_front : (xs ys : List (List ℕ)) → AllWithout 10 (xs ++ ys) → AllWithout 10 xs
plain_front [] ys plain = tt
plain_front (x ∷ xs) ys plain = (plain.0, plain_front xs ys plain.1)

pub plain_last : (xs : List (List ℕ)) (x : List ℕ) → AllWithout 10 (xs ++ x ∷ []) → Without 10 x
plain_last [] x plain = plain.0
plain_last (y ∷ ys) x plain = plain_last ys x plain.1

pub begins_plain : (lines : List (List ℕ)) → Begins lines → AllWithout 10 lines
begins_plain lines begins =
    let P : List (List ℕ) → Type 0 = AllWithout 10 in
    plain_front lines begins.2 (subst P begins.3 (lines_plain begins.0 begins.1))

pub begins_less : (before : List (List ℕ)) (line : List ℕ) (more : List (List ℕ)) (lines : List (List ℕ)) → lines ≡ before ++ line ∷ more → Begins lines → Begins (before ++ line ∷ [])
begins_less before line more lines same begins =
    (begins.0, begins.1, more ++ begins.2, begins.3 ∙ ap (λ ls. ls ++ begins.2) same ∙ append_assoc before (line ∷ more) begins.2 ∙ sym (append_assoc before (line ∷ []) (more ++ begins.2)))

some_lines : (p : Play) → text_lines p ≡ [] → ⊥
unfolding text_lines
some_lines p none = cc

-- ---- one answer

play_or_refusal : (bytes : List ℕ) (p : Play) (n : ℕ) → IsReadAs bytes (Ok p) → IsFirstBadLine bytes n → ⊥
play_or_refusal bytes p n read refused =
    elim (compare (text_lines p) refused.before [] refused.behind (lines_plain p read.0) (begins_plain refused.before refused.good)
    (append-nil (play_text p) ∙ sym read.1 ∙ refused.whole)) [
      | inl e ↦ some_lines p (e.0 ∙ refused.follows (sym e.1))
      | inr (inl longer) ↦
          refused.bad longer.line (ended longer.more ++ []) longer.left
          (begins_less refused.before longer.line longer.more (text_lines p) longer.is (p, read.0, [], sym (append-nil (text_lines p))))
      | inr (inr longer) ↦ no_line_in_nothing longer.line (ended longer.more ++ refused.behind) longer.left
    ]

one_refusal : (bytes : List ℕ) (m n : ℕ) → IsFirstBadLine bytes m → IsFirstBadLine bytes n → m ≡ n
one_refusal bytes m n a b =
    elim (compare a.before b.before a.behind b.behind (begins_plain a.before a.good) (begins_plain b.before b.good) (sym a.whole ∙ b.whole)) [
      | inl e ↦ a.number ∙ ap (λ ls. length ls + 1) e.0 ∙ sym b.number
      | inr (inl longer) ↦ absurd (b.bad longer.line (ended longer.more ++ a.behind) longer.left (begins_less b.before longer.line longer.more a.before longer.is a.good))
      | inr (inr longer) ↦ absurd (a.bad longer.line (ended longer.more ++ b.behind) longer.left (begins_less a.before longer.line longer.more b.before longer.is b.good))
    ]

one_play : (bytes : List ℕ) (p q : Play) → IsReadAs bytes (Ok p) → IsReadAs bytes (Ok q) → p ≡ q
one_play bytes p q a b =
    elim (compare (text_lines p) (text_lines q) [] [] (lines_plain p a.0) (lines_plain q b.0) (append-nil (play_text p) ∙ sym a.1 ∙ b.1 ∙ sym (append-nil (play_text q)))) [
      | inl e ↦ (let same : Some p ≡ Some q = sym (lines_taken p a.0) ∙ ap play_of_lines e.0 ∙ lines_taken q b.0 in cc)
      | inr (inl longer) ↦ absurd (no_line_in_nothing longer.line (ended longer.more ++ []) longer.left)
      | inr (inr longer) ↦ absurd (no_line_in_nothing longer.line (ended longer.more ++ []) longer.left)
    ]

pub one_answer : (bytes : List ℕ) (r s : Result Play ℕ) → IsReadAs bytes r → IsReadAs bytes s → r ≡ s
one_answer bytes (Ok p) (Ok q) a b = ap Ok (one_play bytes p q a b)
one_answer bytes (Ok p) (Err n) a b = absurd (play_or_refusal bytes p n a b)
one_answer bytes (Err m) (Ok q) a b = absurd (play_or_refusal bytes q m b a)
one_answer bytes (Err m) (Err n) a b = ap Err (one_refusal bytes m n a b)

-- ---- the walk

steps-append : (xs ys : List (List ℕ)) (p q : Play) → steps xs p ≡ Some q → steps (xs ++ ys) p ≡ steps ys q
steps-append [] ys p q found = let e : p ≡ q = cc in ap (steps ys) e
steps-append (x ∷ xs) ys p q found = by (step p x) found (λ r. steps-append xs ys r q)
  where
    by : (o : Option Play) → option_and_then (steps xs) o ≡ Some q → ((r : Play) → steps xs r ≡ Some q → steps (xs ++ ys) r ≡ steps ys q) → option_and_then (steps (xs ++ ys)) o ≡ steps ys q
    by None found' rest = cc
    by (Some r) found' rest = rest r found'

play_of_lines-append : (xs ys : List (List ℕ)) (p : Play) → play_of_lines xs ≡ Some p → play_of_lines (xs ++ ys) ≡ steps ys p
play_of_lines-append [] ys p found = cc
play_of_lines-append (x ∷ xs) ys p found = by (header_of (words_of x)) found
  where
    by : (o : Option Play) → option_and_then (steps xs) o ≡ Some p → option_and_then (steps (xs ++ ys)) o ≡ steps ys p
    by None found' = cc
    by (Some r) found' = steps-append xs ys r p found'

-- where the walk stands: the lines so far are those of this play, and the rest of the file is left
record Stands (bytes : List ℕ) (before : List (List ℕ)) (p : Play) (left : List (List ℕ)) : Type 0 where
  reads : Reads p before
  plain : AllWithout 10 left
  whole : bytes ≡ ended before ++ joined 10 left

begins_here : (p : Play) (before : List (List ℕ)) → Reads p before → Begins before
begins_here p before reads = (p, reads.play, [], reads.written ∙ sym (append-nil before))

-- a line behind which reading gives nothing begins no play
bad_step : (p : Play) (before : List (List ℕ)) (text : List ℕ) → Reads p before → step p text ≡ None → Begins (before ++ text ∷ []) → ⊥
bad_step p before text reads none begins =
    let q : Play = begins.0 in
    let read : play_of_lines before ≡ Some p = ap play_of_lines (sym reads.written) ∙ lines_taken p reads.play in
    let all : play_of_lines (before ++ text ∷ begins.2) ≡ Some q =
    ap play_of_lines (sym (append_assoc before (text ∷ []) begins.2) ∙ sym begins.3) ∙ lines_taken q begins.1 in
    let nothing : steps (text ∷ begins.2) p ≡ None = ap (option_and_then (steps begins.2)) none in
    let never : None ≡ Some q = sym nothing ∙ sym (play_of_lines-append before (text ∷ begins.2) p read) ∙ all in
    cc

bad_header : (text : List ℕ) → header_of (words_of text) ≡ None → Begins (text ∷ []) → ⊥
bad_header text none begins =
    let q : Play = begins.0 in
    let all : play_of_lines (text ∷ begins.2) ≡ Some q = ap play_of_lines (sym begins.3) ∙ lines_taken q begins.1 in
    let nothing : play_of_lines (text ∷ begins.2) ≡ None = ap (option_and_then (steps begins.2)) none in
    let never : None ≡ Some q = sym nothing ∙ all in
    cc

-- an ended line that begins no play behind the lines so far
bad_line : (before : List (List ℕ)) (text behind line rest : List ℕ) → Without 10 text → ¬ Begins (before ++ text ∷ []) → text ++ 10 ∷ behind ≡ line ++ 10 ∷ rest → ¬ Begins (before ++ line ∷ [])
bad_line before text behind line rest plain bad same begins =
    let first = same_line text line behind rest plain (plain_last before line (begins_plain (before ++ line ∷ []) begins)) same in
    let P : List ℕ → Type 0 = λ l. Begins (before ++ l ∷ []) in
    bad (subst P (sym first.0) begins)

-- something behind the lines so far is refused
refused_here : (bytes : List ℕ) (before : List (List ℕ)) (behind : List ℕ) → Begins before → bytes ≡ ended before ++ behind
    → ((line rest : List ℕ) → behind ≡ line ++ 10 ∷ rest → ¬ Begins (before ++ line ∷ [])) → (behind ≡ [] → before ≡ []) → IsFirstBadLine bytes (length before + 1)
refused_here bytes before behind good whole bad follows = record { before = before; behind = behind; whole = whole; number = refl; good = good; bad = bad; follows = follows }

line_and_more : (line rest : List ℕ) → line ++ 10 ∷ rest ≡ [] → ⊥
line_and_more line rest none = no_line_in_nothing line rest (sym none)

at_end : (bytes : List ℕ) (before : List (List ℕ)) (p : Play) → Stands bytes before p ([] ∷ []) → IsReadAs bytes (Ok p)
at_end bytes before p s = (s.reads.play, s.whole ∙ append-nil (ended before) ∙ ap ended (sym s.reads.written))

unended : (bytes : List ℕ) (before : List (List ℕ)) (p : Play) (b : ℕ) (bs : List ℕ) → Stands bytes before p ((b ∷ bs) ∷ []) → IsFirstBadLine bytes (length before + 1)
unended bytes before p b bs s =
    refused_here bytes before (b ∷ bs) (begins_here p before s.reads) s.whole (λ line rest same begins. no_line (b ∷ bs) line rest s.plain.0 same) (λ none. cc)

refused_step : (bytes : List ℕ) (before : List (List ℕ)) (p : Play) (text next : List ℕ) (lines : List (List ℕ)) → Stands bytes before p (text ∷ next ∷ lines) → step p text ≡ None
    → IsFirstBadLine bytes (length before + 1)
refused_step bytes before p text next lines s none =
    refused_here bytes before (text ++ 10 ∷ joined 10 (next ∷ lines)) (begins_here p before s.reads) s.whole
    (λ line rest. bad_line before text (joined 10 (next ∷ lines)) line rest s.plain.0 (bad_step p before text s.reads none))
    (λ none'. absurd (line_and_more text (joined 10 (next ∷ lines)) none'))

goes_on : (bytes : List ℕ) (before : List (List ℕ)) (p q : Play) (text next : List ℕ) (lines : List (List ℕ)) → Stands bytes before p (text ∷ next ∷ lines) → step p text ≡ Some q
    → Stands bytes (before ++ text ∷ []) q (next ∷ lines)
goes_on bytes before p q text next lines s found = record {
  reads = step_read p q before text s.reads found;
  plain = s.plain.1;
  whole = s.whole ∙ sym (ended-push before text (joined 10 (next ∷ lines)));
}

walk_lines_exact : (bytes : List ℕ) (n : ℕ) (before : List (List ℕ)) (p : Play) (left : List (List ℕ)) → n ≡ length before + 1 → 1 ≤ length left → Stands bytes before p left
    → IsReadAs bytes (walk_lines n p left)
walk_lines_exact bytes n before p [] number some s = absurd (omega arith)
walk_lines_exact bytes n before p ([] ∷ []) number some s = at_end bytes before p s
walk_lines_exact bytes n before p ((b ∷ bs) ∷ []) number some s = let P : ℕ → Type 0 = IsFirstBadLine bytes in subst P (sym number) (unended bytes before p b bs s)
walk_lines_exact bytes n before p (text ∷ next ∷ lines) number some s =
    by (step p text) refl (λ q found. walk_lines_exact bytes (n + 1) (before ++ text ∷ []) q (next ∷ lines) (omega (arith, length-append before (text ∷ []))) (omega arith) (goes_on bytes before p q text next lines s found))
  where
    by : (o : Option Play) → step p text ≡ o → ((q : Play) → step p text ≡ Some q → IsReadAs bytes (walk_lines (n + 1) q (next ∷ lines)))
        → IsReadAs bytes (taken n (λ q. walk_lines (n + 1) q (next ∷ lines)) o)
    by None e rest = let P : ℕ → Type 0 = IsFirstBadLine bytes in subst P (sym number) (refused_step bytes before p text next lines s e)
    by (Some q) e rest = rest q e

begins_nothing : Begins []
begins_nothing = (idle, idle-IsPlay, text_lines idle, refl)

walk_parts_exact : (bytes : List ℕ) (left : List (List ℕ)) → 1 ≤ length left → AllWithout 10 left → bytes ≡ joined 10 left → IsReadAs bytes (walk_parts left)
walk_parts_exact bytes [] some plain whole = absurd (omega arith)
walk_parts_exact bytes (line ∷ []) some plain whole =
    refused_here bytes [] line begins_nothing whole (λ l rest same begins. no_line line l rest plain.0 same) (λ _. refl)
walk_parts_exact bytes (line ∷ next ∷ lines) some plain whole = by (header_of (words_of line)) refl
  where
    by : (o : Option Play) → header_of (words_of line) ≡ o → IsReadAs bytes (taken 1 (λ p. walk_lines 2 p (next ∷ lines)) o)
    by None e = refused_here bytes [] (line ++ 10 ∷ joined 10 (next ∷ lines)) begins_nothing whole
        (λ l rest. bad_line [] line (joined 10 (next ∷ lines)) l rest plain.0 (bad_header line e)) (λ _. refl)
    by (Some p) e =
        walk_lines_exact bytes 2 (line ∷ []) p (next ∷ lines) refl (omega arith)
        (record { reads = header_read line p e; plain = plain.1; whole = whole ∙ sym (ended-push [] line (joined 10 (next ∷ lines))) })

-- the walk finds what a file is read as
pub walk_exact : (bytes : List ℕ) → IsReadAs bytes (walk bytes)
unfolding walk
walk_exact bytes = walk_parts_exact bytes (parts 10 bytes) (some_part 10 bytes) (parts_without 10 bytes) (sym (joined_parts 10 bytes))

pub walk_is : (bytes : List ℕ) (r : Result Play ℕ) → IsReadAs bytes r → walk bytes ≡ r
walk_is bytes r read = one_answer bytes (walk bytes) r (walk_exact bytes) read

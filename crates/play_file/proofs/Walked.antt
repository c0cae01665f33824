-- The walk, one line after the other, as the code takes it.
use Rattle.std.proofs.Common.{◌≡◌, ◌≤◌, ℕ, ◌+◌, List, [], ◌∷◌, ◌++◌, length, Option, Result, Ok, Err, refl, sym, ap, subst, ◌∙◌, arith, length-append}
use Rattle.std.specs.Prelude.{map, IfOk, IfErr}
use Rattle.std.proofs.lemmas.List.{length-map}
use Rattle.plain_text.specs.Parts.{parts, words_of}
use Rattle.play_specs.specs.Play.{Play}
use Rattle.play_specs.specs.PlayText.{text_lines, ended}
use Rattle.play_specs.specs.PlayReading.{IsFirstBadLine, IsReadAs}
use Rattle.plain_text.specs.Parts.{IsCut}
use Rattle.play_file.specs.Walk.{header_of, step, taken, walk_lines, walk_parts, walk}
use Rattle.play_file.specs.Answers.{Names, Answers}
use Rattle.play_file.specs.declared.error.PlayError.{PlayError}
use Rattle.play_file.specs.declared.error.PlayError.TheVariants.{Line, Memory}
use Rattle.plain_text.proofs.Separators.{some_part}
use Rattle.play_file.proofs.Steps.{entry_line, action_line, text_lines-laid}
use Rattle.play_file.proofs.Files.{walk_exact, walk_is}

one_line : (n : ℕ) (p : Play) (line : List ℕ) (behind : List (List ℕ)) → 1 ≤ length behind → walk_lines n p (line ∷ behind) ≡ taken n (λ q. walk_lines (n + 1) q behind) (step p line)
one_line n p line [] some = absurd (omega arith)
one_line n p [] (next ∷ lines) some = refl
one_line n p (b ∷ bs) (next ∷ lines) some = refl

-- what a line gives decides the rest
pub line_taken : (n : ℕ) (p : Play) (text line rest : List ℕ) (o : Option Play) (all : Result Play ℕ) → IsCut 10 text line rest → step p line ≡ o → walk_lines n p (parts 10 text) ≡ all
    → taken n (λ q. walk_lines (n + 1) q (parts 10 rest)) o ≡ all
line_taken n p text line rest o all cut gives so_far =
    ap (taken n (λ q. walk_lines (n + 1) q (parts 10 rest))) (sym gives) ∙ sym (one_line n p line (parts 10 rest) (some_part 10 rest)) ∙ ap (walk_lines n p) (sym cut.parts_are) ∙ so_far

pub last_part : (n : ℕ) (p : Play) (text : List ℕ) (all : Result Play ℕ) → parts 10 text ≡ text ∷ [] → length text ≡ 0 → walk_lines n p (parts 10 text) ≡ all → all ≡ Ok p
last_part n p [] all uncut empty so_far = sym so_far
last_part n p (b ∷ bs) all uncut empty so_far = absurd (omega arith)

one_header : (line : List ℕ) (behind : List (List ℕ)) → 1 ≤ length behind → walk_parts (line ∷ behind) ≡ taken 1 (λ p. walk_lines 2 p behind) (header_of (words_of line))
one_header line [] some = absurd (omega arith)
one_header line (next ∷ lines) some = refl

-- what the header gives decides the rest
pub header_decides : (bytes line rest : List ℕ) (o : Option Play) → IsCut 10 bytes line rest → o ≡ header_of (words_of line) → walk bytes ≡ taken 1 (λ p. walk_lines 2 p (parts 10 rest)) o
unfolding walk
header_decides bytes line rest o cut gives =
    ap walk_parts cut.parts_are ∙ one_header line (parts 10 rest) (some_part 10 rest) ∙ ap (taken 1 (λ p. walk_lines 2 p (parts 10 rest))) (sym gives)

pub no_header : (bytes : List ℕ) → parts 10 bytes ≡ bytes ∷ [] → walk bytes ≡ Err 1
unfolding walk
no_header bytes uncut = ap walk_parts uncut

pub Names-same : (e : PlayError) (a b : Result Play ℕ) → b ≡ a → Names e a → Names e b
Names-same e a b same names = let P : Result Play ℕ → Type 0 = Names e in subst P (sym same) names

-- ---- what is public

pub is_play : (bytes : List ℕ) (p : Play) → walk bytes ≡ Ok p → IsReadAs bytes (Ok p)
is_play bytes p found = let P : Result Play ℕ → Type 0 = IsReadAs bytes in subst P found (walk_exact bytes)

pub is_bad_line : (bytes : List ℕ) (n : ℕ) → walk bytes ≡ Err n → IsFirstBadLine bytes n
is_bad_line bytes n found = let P : Result Play ℕ → Type 0 = IsReadAs bytes in subst P found (walk_exact bytes)

-- the reader's answer and the walk's
pub record Follows (result : Result Play PlayError) (bytes : List ℕ) : Type 0 where
  pub found : IfOk result (λ p. walk bytes ≡ Ok p)
  pub fault : IfErr result (λ e. Names e (walk bytes))

pub found_of : (result : Result Play PlayError) (bytes : List ℕ) → Follows result bytes → IfOk result (λ p. IsReadAs bytes (Ok p))
found_of (Ok p) bytes follows = is_play bytes p follows.found
found_of (Err e) bytes follows = tt

pub line_of : (result : Result Play PlayError) (bytes : List ℕ) (n : ℕ) → Follows result bytes → result ≡ Err (Line n) → IsFirstBadLine bytes n
line_of (Ok p) bytes n follows is = cc
line_of (Err (Line m)) bytes n follows is = let e : m ≡ n = cc in is_bad_line bytes n (follows.fault ∙ ap Err e)
line_of (Err Memory) bytes n follows is = cc

pub answers_of : (result : Result Play PlayError) (bytes : List ℕ) (answer : Result Play ℕ) → Follows result bytes → IsReadAs bytes answer → Answers result answer
answers_of (Ok p) bytes answer follows read = sym (walk_is bytes answer read) ∙ follows.found
answers_of (Err e) bytes answer follows read = Names-same e (walk bytes) answer (sym (walk_is bytes answer read)) follows.fault

-- a line has a byte at least, its line feed
ended_long : (lines : List (List ℕ)) → length lines ≤ length (ended lines)
ended_long [] = omega arith
ended_long (line ∷ lines) = omega (arith, ended_long lines, length-append (line ++ 10 ∷ []) (ended lines), length-append line (10 ∷ []))

few_actions : (p : Play) → length p.actions ≤ length (text_lines p)
few_actions p =
    let es : List (List ℕ) = map entry_line p.errors in
    let as' : List (List ℕ) = map action_line p.actions in
    rw (text_lines-laid p) (omega (arith, length-append es as', length-map p.actions action_line))

pub few_of : (result : Result Play PlayError) (bytes : List ℕ) → Follows result bytes → IfOk result (λ p. length p.actions ≤ length bytes)
few_of (Ok p) bytes follows =
    let is = is_play bytes p follows.found in
    rw is.1 (omega (arith, few_actions p, ended_long (text_lines p)))
few_of (Err e) bytes follows = tt

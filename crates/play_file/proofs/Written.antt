-- The lines of a play are read as that play.
use Rattle.std.proofs.Common.{◌≡◌, ◌≤◌, ◌<◌, ℕ, ◌+◌, ◌-◌, ◌^◌, ◌%◌, ◌==◌, Bool, true, false, List, [], ◌∷◌, ◌++◌, length, Option, Some, None, refl, sym, ap, ◌∙◌, arith, append_assoc, length-append}
use Rattle.std.specs.Prelude.{nat_lt, decimal, codes, bytes_eq, map, option_and_then, option_map, unwrap_or, is_some, IfSome, All}
use Rattle.std.proofs.lemmas.Bool.Decides.{nat_tests}
use Rattle.std.proofs.lemmas.List.{append-nil}
use Rattle.std.proofs.lemmas.List.Elements.{All-head, All-tail}
use Rattle.std.proofs.lemmas.Slice.Eq.{bytes_eq-Decides}
use Rattle.frame_specs.specs.Frame.{Frame, is_fd}
use Rattle.frame_specs.specs.FrameText.{frame_text}
use Rattle.frame_specs.proofs.FrameReadingLaws.{frame_of_from_spells}
use Rattle.bus_specs.specs.Bus.{ErrorEntry}
use Rattle.plain_text.specs.Decimal.{number_in, number_of}
use Rattle.plain_text.specs.Parts.{words_of}
use Rattle.play_specs.specs.Play.{Play, PlayAction, Verb, Send, Wake, Sleep, Keep, Discard, Between, IsRate, IsEntry, IsSendable, IsAction, Rises, IsPlay}
use Rattle.play_specs.specs.PlayText.{spaced, header_words, by_text, error_words, verb_words, action_words, text_lines}
use Rattle.play_file.specs.Walk.{rate_or_none, fd_divides, if_divides, header_in, header_of, with_entry, with_action, by_of, entry_in, last_of, sendable, sent, action_in, then_action, with_words, step, steps, play_of_lines}
use Rattle.plain_text.proofs.Separators.{over, all_over, over-decimal, over-frame, words_of_line, line_without, AllWithout}
use Rattle.plain_text.proofs.Decimals.{number_in-decimal}
use Rattle.play_file.proofs.Steps.{entry_line, action_line, text_lines-laid}

-- ---- the header

abbrev pub bare : Play → Play
bare p = record p { errors = []; actions = [] }

header_in_parts : (r t f n s : List ℕ) (a b c d e : ℕ) → number_in 1 (10 ^ 12) r ≡ Some a → number_in 1 (2 ^ 32 - 1) t ≡ Some b → number_in 0 (2 ^ 32 - 1) f ≡ Some c → number_in 1 32 n ≡ Some d
    → number_in 0 (2 ^ 62) s ≡ Some e → header_in r t f n s ≡ if_divides a b c d e
unfolding header_in
header_in_parts r t f n s a b c d e ea eb ec ed ee = rw (ea, eb, ec, ed, ee) refl

divides : (resolution rate : ℕ) → IsRate resolution rate → ((resolution % rate) == 0) ≡ true
divides resolution rate is = let h : resolution % rate ≡ 0 = is.divides in grind (arith, nat_tests)

fd_rate_is : (resolution : ℕ) (fd_rate : Option ℕ) → IfSome fd_rate (IsRate resolution)
    → (fd_divides resolution (unwrap_or fd_rate 0) ≡ true) × (rate_or_none (unwrap_or fd_rate 0) ≡ fd_rate) × Between 0 (2 ^ 32 - 1) (unwrap_or fd_rate 0)
fd_rate_is resolution None is = (refl, refl, (omega arith, omega arith))
fd_rate_is resolution (Some rate) is =
    let ne : (rate == 0) ≡ false = let low : 1 ≤ rate = is.in_range.0 in grind (arith, nat_tests) in
    (rw ne (divides resolution rate is), rw ne refl, (omega arith, is.in_range.1))

if_divides-all : (a b c d e : ℕ) (fd_rate : Option ℕ) → ((a % b) == 0) ≡ true → fd_divides a c ≡ true → rate_or_none c ≡ fd_rate
    → if_divides a b c d e ≡ Some (record { resolution = a; rate = b; fd_rate = fd_rate; nodes = d; stop = e; errors = []; actions = [] })
if_divides-all a b c d e fd_rate rate fd same = rw (rate, fd, same) refl

header_of-words : (p : Play) → IsPlay p → header_of (header_words p) ≡ Some (bare p)
header_of-words p is =
    let fd = fd_rate_is p.resolution p.fd_rate is.fd_rate in
    header_in_parts (decimal p.resolution) (decimal p.rate) (decimal (unwrap_or p.fd_rate 0)) (decimal p.nodes) (decimal p.stop) p.resolution p.rate (unwrap_or p.fd_rate 0) p.nodes p.stop
    (number_in-decimal 1 (10 ^ 12) p.resolution (omega arith) is.resolution)
    (number_in-decimal 1 (2 ^ 32 - 1) p.rate (omega arith) is.rate.in_range)
    (number_in-decimal 0 (2 ^ 32 - 1) (unwrap_or p.fd_rate 0) (omega arith) fd.2)
    (number_in-decimal 1 32 p.nodes (omega arith) is.nodes)
    (number_in-decimal 0 (2 ^ 62) p.stop (omega arith) (omega arith, is.stop))
    ∙ if_divides-all p.resolution p.rate (unwrap_or p.fd_rate 0) p.nodes p.stop p.fd_rate (divides p.resolution p.rate is.rate) fd.0 fd.1

header_over : (p : Play) → IsPlay p → all_over 32 (header_words p) ≡ true
header_over p is =
    let fd = fd_rate_is p.resolution p.fd_rate is.fd_rate in
    rw (over-decimal 32 p.resolution (omega arith) (omega (arith, is.resolution.1)), over-decimal 32 p.rate (omega arith) (omega (arith, is.rate.in_range.1)), over-decimal 32 (unwrap_or p.fd_rate 0) (omega arith) (omega (arith, fd.2.1)), over-decimal 32 p.nodes (omega arith) (omega (arith, is.nodes.1)), over-decimal 32 p.stop (omega arith) (omega (arith, is.stop))) refl

pub header_taken : (p : Play) → IsPlay p → header_of (words_of (spaced (header_words p))) ≡ Some (bare p)
header_taken p is = ap header_of (words_of_line (codes "play") (decimal p.resolution ∷ decimal p.rate ∷ decimal (unwrap_or p.fd_rate 0) ∷ decimal p.nodes ∷ decimal p.stop ∷ []) (header_over p is)) ∙ header_of-words p is

-- ---- error lines

sender_is_no_number : (low high : ℕ) → number_in low high (codes "sender") ≡ None
unfolding number_in number_of
sender_is_no_number low high = refl

not_sender : (n : ℕ) → n < 32 → bytes_eq (decimal n) (codes "sender") ≡ false
not_sender n small = by (bytes_eq (decimal n) (codes "sender")) refl
  where
    by : (same : Bool) → bytes_eq (decimal n) (codes "sender") ≡ same → same ≡ false
    by true e =
        let is = (bytes_eq-Decides (decimal n) (codes "sender")).0 e in
        let read = number_in-decimal 0 31 n (omega arith) (omega arith, omega arith) in
        let none = ap (number_in 0 31) is ∙ sender_is_no_number 0 31 in
        let never : Some n ≡ None = sym read ∙ none in
        cc
    by false e = refl

by_of-text : (nodes : ℕ) (by : Option ℕ) → 1 ≤ nodes → nodes ≤ 32 → IfSome by (λ n. n < nodes) → by_of nodes (by_text by) ≡ Some by
by_of-text nodes None some few known = refl
by_of-text nodes (Some n) some few known =
    rw (not_sender n (omega arith)) (ap (option_map Some) (number_in-decimal 0 (nodes - 1) n (omega arith) (omega arith, omega arith)))

entry_in_parts : (nodes : ℕ) (first count kind by bit : List ℕ) (e : ErrorEntry) → number_in 1 (2 ^ 32) first ≡ Some e.first → number_in 1 (2 ^ 32) count ≡ Some e.count → number_in 1 4 kind ≡ Some e.kind
    → by_of nodes by ≡ Some e.by → number_in 0 1023 bit ≡ Some e.bit → entry_in nodes first count kind by bit ≡ Some e
unfolding entry_in
entry_in_parts nodes first count kind by bit e ea eb ec ed ee = rw (ea, eb, ec, ed, ee) refl

entry_in-texts : (nodes : ℕ) (e : ErrorEntry) → 1 ≤ nodes → nodes ≤ 32 → IsEntry nodes e
    → entry_in nodes (decimal e.first) (decimal e.count) (decimal e.kind) (by_text e.by) (decimal e.bit) ≡ Some e
entry_in-texts nodes e some few is = entry_in_parts nodes (decimal e.first) (decimal e.count) (decimal e.kind) (by_text e.by) (decimal e.bit) e
    (number_in-decimal 1 (2 ^ 32) e.first (omega arith) is.first)
    (number_in-decimal 1 (2 ^ 32) e.count (omega arith) is.count)
    (number_in-decimal 1 4 e.kind (omega arith) is.kind)
    (by_of-text nodes e.by some few is.by)
    (number_in-decimal 0 1023 e.bit (omega arith) (omega arith, is.bit))

over-by : (nodes : ℕ) (by : Option ℕ) → nodes ≤ 32 → IfSome by (λ n. n < nodes) → over 32 (by_text by) ≡ true
over-by nodes None few known = refl
over-by nodes (Some n) few known = over-decimal 32 n (omega arith) (omega arith)

entry_over : (nodes : ℕ) (e : ErrorEntry) → nodes ≤ 32 → IsEntry nodes e → all_over 32 (error_words e) ≡ true
entry_over nodes e few is =
    rw (over-decimal 32 e.first (omega arith) (omega (arith, is.first.1)), over-decimal 32 e.count (omega arith) (omega (arith, is.count.1)), over-decimal 32 e.kind (omega arith) (omega (arith, is.kind.1)), over-by nodes e.by few is.by, over-decimal 32 e.bit (omega arith) (omega (arith, is.bit))) refl

entry_words_taken : (p : Play) (e : ErrorEntry) → IsEntry p.nodes e → 1 ≤ p.nodes → p.nodes ≤ 32 → p.actions ≡ [] → length p.errors < 1024 → with_words p (error_words e) ≡ Some (with_entry p e)
entry_words_taken p e is some few none room =
    let fits : nat_lt (length p.errors) 1024 ≡ true = grind (arith, nat_tests) in
    let found = entry_in-texts p.nodes e some few is in
    rw (none, fits, found) refl

-- ---- action lines

verb_taken-send : (fd_rate : Option ℕ) (f : Frame) → IsSendable fd_rate f → sent fd_rate (codes "send") (frame_text f) ≡ Some (Send f)
verb_taken-send fd_rate f is =
    let found = frame_of_from_spells (frame_text f) f (record { well_formed = is.well_formed; bytes = is.bytes; spelled = refl }) in
    ap (option_and_then (sendable fd_rate)) found ∙ by (is_fd f.kind) refl
  where
    by : (fd : Bool) → is_fd f.kind ≡ fd → sendable fd_rate f ≡ Some (Send f)
    by true e = let r : is_some fd_rate ≡ true = is.rate e in rw (e, r) refl
    by false e = rw e refl

action_in_parts : (last nodes : ℕ) (moment node : List ℕ) (verb : Option Verb) (a : PlayAction) → number_in last (2 ^ 62) moment ≡ Some a.moment → number_in 0 (nodes - 1) node ≡ Some a.node → verb ≡ Some a.verb
    → action_in last nodes moment node verb ≡ Some a
unfolding action_in
action_in_parts last nodes moment node verb a ea eb ec = rw (ea, eb, ec) refl

action_in-texts : (p : Play) (a : PlayAction) (verb : Option Verb) → IsAction p.nodes p.fd_rate a → 1 ≤ p.nodes → p.nodes ≤ 32 → last_of 0 p.actions ≤ a.moment → verb ≡ Some a.verb
    → then_action p (decimal a.moment) (decimal a.node) verb ≡ Some (with_action p a)
action_in-texts p a verb is some few later same = ap (option_map (with_action p)) (action_in_parts (last_of 0 p.actions) p.nodes (decimal a.moment) (decimal a.node) verb a
    (number_in-decimal (last_of 0 p.actions) (2 ^ 62) a.moment (omega arith) (later, is.moment))
    (number_in-decimal 0 (p.nodes - 1) a.node (omega arith) (omega arith, omega (arith, is.node)))
    same)

action_words_taken : (p : Play) (moment node : ℕ) (v : Verb) → IsAction p.nodes p.fd_rate (record { moment = moment; node = node; verb = v }) → 1 ≤ p.nodes → p.nodes ≤ 32 → last_of 0 p.actions ≤ moment
    → with_words p (action_words (record { moment = moment; node = node; verb = v })) ≡ Some (with_action p (record { moment = moment; node = node; verb = v }))
action_words_taken p moment node (Send f) is some few later =
    action_in-texts p (record { moment = moment; node = node; verb = Send f }) (sent p.fd_rate (codes "send") (frame_text f)) is some few later (verb_taken-send p.fd_rate f is.verb)
action_words_taken p moment node Wake is some few later = action_in-texts p (record { moment = moment; node = node; verb = Wake }) (Some Wake) is some few later refl
action_words_taken p moment node Sleep is some few later = action_in-texts p (record { moment = moment; node = node; verb = Sleep }) (Some Sleep) is some few later refl
action_words_taken p moment node Keep is some few later = action_in-texts p (record { moment = moment; node = node; verb = Keep }) (Some Keep) is some few later refl
action_words_taken p moment node Discard is some few later = action_in-texts p (record { moment = moment; node = node; verb = Discard }) (Some Discard) is some few later refl

verb_over : (v : Verb) → all_over 32 (verb_words v) ≡ true
verb_over (Send f) = rw (over-frame f) refl
verb_over Wake = refl
verb_over Sleep = refl
verb_over Keep = refl
verb_over Discard = refl

action_over : (nodes : ℕ) (fd_rate : Option ℕ) (a : PlayAction) → nodes ≤ 32 → IsAction nodes fd_rate a → all_over 32 (action_words a) ≡ true
action_over nodes fd_rate a few is = rw (over-decimal 32 a.moment (omega arith) (omega (arith, is.moment)), over-decimal 32 a.node (omega arith) (omega (arith, is.node)), verb_over a.verb) refl

-- ---- all lines

pub entry_taken : (p : Play) (e : ErrorEntry) → IsEntry p.nodes e → Between 1 32 p.nodes → p.actions ≡ [] → length p.errors < 1024 → step p (entry_line e) ≡ Some (with_entry p e)
entry_taken p e is range none room =
    ap (with_words p) (words_of_line (codes "error") (decimal e.first ∷ decimal e.count ∷ decimal e.kind ∷ by_text e.by ∷ decimal e.bit ∷ []) (entry_over p.nodes e range.1 is))
    ∙ entry_words_taken p e is range.0 range.1 none room

pub action_taken : (p : Play) (a : PlayAction) → IsAction p.nodes p.fd_rate a → Between 1 32 p.nodes → last_of 0 p.actions ≤ a.moment → step p (action_line a) ≡ Some (with_action p a)
action_taken p a is range later =
    ap (with_words p) (words_of_line (decimal a.moment) (decimal a.node ∷ verb_words a.verb) (action_over p.nodes p.fd_rate a range.1 is))
    ∙ action_words_taken p a.moment a.node a.verb is range.0 range.1 later

-- a play with these errors and actions
abbrev with_lists : Play → List ErrorEntry → List PlayAction → Play
with_lists p es as' = record p { errors = es; actions = as' }

pub last_of-push : (last : ℕ) (as' : List PlayAction) (a : PlayAction) → last_of last (as' ++ a ∷ []) ≡ a.moment
last_of-push last [] a = refl
last_of-push last (b ∷ bs) a = last_of-push b.moment bs a

actions_taken : (p : Play) (es : List ErrorEntry) (done left : List PlayAction) → Between 1 32 p.nodes → All (IsAction p.nodes p.fd_rate) left → Rises (last_of 0 done) left
    → steps (map action_line left) (with_lists p es done) ≡ Some (with_lists p es (done ++ left))
actions_taken p es done [] range are rises = ap (λ as'. Some (with_lists p es as')) (sym (append-nil done))
actions_taken p es done (a ∷ as') range are rises =
    ap (option_and_then (steps (map action_line as'))) (action_taken (with_lists p es done) a (All-head (IsAction p.nodes p.fd_rate) a as' are) range rises.0)
    ∙ actions_taken p es (done ++ a ∷ []) as' range (All-tail (IsAction p.nodes p.fd_rate) a as' are) (rw last_of-push rises.1)
    ∙ ap (λ bs. Some (with_lists p es bs)) (append_assoc done (a ∷ []) as')

entries_taken : (p : Play) (done left : List ErrorEntry) (more : List (List ℕ)) → Between 1 32 p.nodes → All (IsEntry p.nodes) left → length done + length left ≤ 1024
    → steps (map entry_line left ++ more) (with_lists p done []) ≡ steps more (with_lists p (done ++ left) [])
entries_taken p done [] more range are few = ap (λ es. steps more (with_lists p es [])) (sym (append-nil done))
entries_taken p done (e ∷ es) more range are few =
    ap (option_and_then (steps (map entry_line es ++ more))) (entry_taken (with_lists p done []) e (All-head (IsEntry p.nodes) e es are) range refl (omega arith))
    ∙ entries_taken p (done ++ e ∷ []) es more range (All-tail (IsEntry p.nodes) e es are) (omega (arith, length-append done (e ∷ [])))
    ∙ ap (λ xs. steps more (with_lists p xs [])) (append_assoc done (e ∷ []) es)

-- the lines of a play are read as it
pub lines_taken : (p : Play) → IsPlay p → play_of_lines (text_lines p) ≡ Some p
lines_taken p is =
    ap play_of_lines (text_lines-laid p)
    ∙ ap (option_and_then (steps (map entry_line p.errors ++ map action_line p.actions))) (header_taken p is)
    ∙ entries_taken p [] p.errors (map action_line p.actions) is.nodes is.errors (omega (arith, is.few_errors))
    ∙ actions_taken p p.errors [] p.actions is.nodes is.actions is.rises

entry_lines_plain : (nodes : ℕ) (es : List ErrorEntry) (more : List (List ℕ)) → nodes ≤ 32 → All (IsEntry nodes) es → AllWithout 10 more → AllWithout 10 (map entry_line es ++ more)
entry_lines_plain nodes [] more few are rest = rest
entry_lines_plain nodes (e ∷ es) more few are rest =
    (line_without (error_words e) (entry_over nodes e few (All-head (IsEntry nodes) e es are)), entry_lines_plain nodes es more few (All-tail (IsEntry nodes) e es are) rest)

action_lines_plain : (nodes : ℕ) (fd_rate : Option ℕ) (as' : List PlayAction) → nodes ≤ 32 → All (IsAction nodes fd_rate) as' → AllWithout 10 (map action_line as')
action_lines_plain nodes fd_rate [] few are = tt
action_lines_plain nodes fd_rate (a ∷ as') few are =
    (line_without (action_words a) (action_over nodes fd_rate a few (All-head (IsAction nodes fd_rate) a as' are)), action_lines_plain nodes fd_rate as' few (All-tail (IsAction nodes fd_rate) a as' are))

-- no line of a play has a line feed
pub lines_plain : (p : Play) → IsPlay p → AllWithout 10 (text_lines p)
unfolding text_lines
lines_plain p is = (
  line_without (header_words p) (header_over p is),
  entry_lines_plain p.nodes p.errors (map action_line p.actions) is.nodes.1 is.errors (action_lines_plain p.nodes p.fd_rate p.actions is.nodes.1 is.actions),
)

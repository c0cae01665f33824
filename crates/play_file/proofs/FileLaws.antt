-- The lines of a file, counted and cut.
use Rattle.std.proofs.Common.{◌≡◌, ◌≤◌, ◌<◌, ℕ, zero, suc, ◌+◌, ◌-◌, ◌==◌, Bool, true, false, List, [], ◌∷◌, ◌++◌, ◌⊎◌, inl, inr, length, Option, Some, None, Result, Ok, Err, refl, sym, ap, subst, ◌∙◌, arith, append_assoc, length-append}
use Rattle.std.specs.Prelude.{if◌then◌else◌, map, option_and_then}
use Rattle.std.proofs.lemmas.Bool.Decides.{nat_tests}
use Rattle.std.proofs.lemmas.List.{append-nil, length-map}
use Rattle.std.proofs.lemmas.List.Elements.{All-cons, All-nil}
use Rattle.frame_specs.specs.Frame.{Frame, Data, is_well_formed}
use Rattle.plain_text.specs.Parts.{words_of}
use Rattle.play_specs.specs.Play.{Play, PlayAction, Verb, Send, Wake, Sleep, Keep, Discard, IsAction, IsPlay}
use Rattle.play_specs.specs.PlayText.{text_lines, ended, play_text}
use Rattle.play_specs.specs.PlayReading.{Begins, IsFirstBadLine, IsReadAs, IsExact}
use Rattle.play_specs.specs.WrongReaders.{idle, idle-IsPlay, with_frame, action_with_frame, all_with_frame}
use Rattle.play_file.specs.FileLines.{line_feeds, first_lines}
use Rattle.play_file.specs.Walk.{steps, play_of_lines, header_of, step}
use Rattle.plain_text.proofs.Separators.{Without, AllWithout}
use Rattle.play_file.proofs.Steps.{Reads, entry_line, action_line, text_lines-laid, header_read, step_read}
use Rattle.play_file.proofs.Written.{lines_taken, lines_plain}
use Rattle.play_file.proofs.Files.{same_line, no_line, no_line_in_nothing, ended-cons, begins_plain, plain_last, one_answer}

-- ---- line feeds

feeds_line : (line rest : List ℕ) → Without 10 line → line_feeds (line ++ 10 ∷ rest) ≡ 1 + line_feeds rest
feeds_line [] rest plain = omega arith
feeds_line (b ∷ bs) rest plain = rw plain.0 (feeds_line bs rest plain.1)

feeds_ended : (lines : List (List ℕ)) (u : List ℕ) → AllWithout 10 lines → line_feeds (ended lines ++ u) ≡ length lines + line_feeds u
feeds_ended [] u plain = omega arith
feeds_ended (line ∷ lines) u plain =
    ap line_feeds (ended-cons line lines u) ∙ feeds_line line (ended lines ++ u) plain.0 ∙ omega (arith, feeds_ended lines u plain.1)

count_lines : (p : Play) → length (text_lines p) ≡ 1 + length p.errors + length p.actions
count_lines p =
    rw (text_lines-laid p) (omega (arith, length-append (map entry_line p.errors) (map action_line p.actions), length-map p.errors entry_line, length-map p.actions action_line))

pub lines_of_play : (bytes : List ℕ) (p : Play) → IsReadAs bytes (Ok p) → line_feeds bytes ≡ 1 + length p.errors + length p.actions
lines_of_play bytes p read =
    ap line_feeds (read.1 ∙ sym (append-nil (play_text p))) ∙ feeds_ended (text_lines p) [] (lines_plain p read.0) ∙ omega (arith, count_lines p)

pub line_inside : (bytes : List ℕ) (n : ℕ) → IsFirstBadLine bytes n → n ≤ line_feeds bytes + 1
line_inside bytes n refused =
    let counted : line_feeds bytes ≡ length refused.before + line_feeds refused.behind = ap line_feeds refused.whole ∙ feeds_ended refused.before refused.behind (begins_plain refused.before refused.good) in
    omega (arith, refused.number)

-- ---- first lines

first_line : (k : ℕ) (line rest : List ℕ) → Without 10 line → first_lines (suc k) (line ++ 10 ∷ rest) ≡ line ++ 10 ∷ first_lines k rest
first_line k [] rest plain = refl
first_line k (b ∷ bs) rest plain = rw plain.0 (ap (λ xs. b ∷ xs) (first_line k bs rest plain.1))

first_ended : (lines : List (List ℕ)) (k : ℕ) (u : List ℕ) (n : ℕ) → n ≡ length lines + k → AllWithout 10 lines → first_lines n (ended lines ++ u) ≡ ended lines ++ first_lines k u
first_ended [] k u n number plain = ap (λ m. first_lines m u) (omega arith)
first_ended (line ∷ lines) k u zero number plain = absurd (omega arith)
first_ended (line ∷ lines) k u (suc m) number plain =
    ap (first_lines (suc m)) (ended-cons line lines u) ∙ first_line m line (ended lines ++ u) plain.0
    ∙ ap (λ xs. line ++ 10 ∷ xs) (first_ended lines k u m (omega arith) plain.1) ∙ sym (ended-cons line lines (first_lines k u))

no_feed : (k : ℕ) (text : List ℕ) → Without 10 text → first_lines (suc k) text ≡ text
no_feed k [] plain = refl
no_feed k (b ∷ bs) plain = rw plain.0 (ap (λ xs. b ∷ xs) (no_feed k bs plain.1))

-- what is behind the first lines
behind_first : (k : ℕ) (text : List ℕ) → (rest : List ℕ) × (text ≡ first_lines k text ++ rest)
behind_first zero text = (text, refl)
behind_first (suc k) [] = ([], refl)
behind_first (suc k) (b ∷ bs) = by (b == 10) (behind_first k bs) (behind_first (suc k) bs)
  where
    by : (feed : Bool) → (rest : List ℕ) × (bs ≡ first_lines k bs ++ rest) → (rest : List ℕ) × (bs ≡ first_lines (suc k) bs ++ rest)
        → (rest : List ℕ) × (b ∷ bs ≡ b ∷ (if feed then first_lines k bs else first_lines (suc k) bs) ++ rest)
    by true ended' going_on = (ended'.0, ap (λ xs. b ∷ xs) ended'.1)
    by false ended' going_on = (going_on.0, ap (λ xs. b ∷ xs) going_on.1)

-- where fewer line feeds are found, that is all
all_of_it : (k : ℕ) (text : List ℕ) → line_feeds (first_lines k text) < k → first_lines k text ≡ text
all_of_it zero text few = absurd (omega arith)
all_of_it (suc k) [] few = refl
all_of_it (suc k) (b ∷ bs) few = by (b == 10) refl (all_of_it k bs) (all_of_it (suc k) bs) few
  where
    by : (feed : Bool) → (b == 10) ≡ feed → (line_feeds (first_lines k bs) < k → first_lines k bs ≡ bs) → (line_feeds (first_lines (suc k) bs) < suc k → first_lines (suc k) bs ≡ bs)
        → line_feeds (b ∷ (if feed then first_lines k bs else first_lines (suc k) bs)) < suc k → b ∷ (if feed then first_lines k bs else first_lines (suc k) bs) ≡ b ∷ bs
    by true e ended' going_on few' = let h = rw e at few' in ap (λ xs. b ∷ xs) (ended' (omega (arith, h)))
    by false e ended' going_on few' = ap (λ xs. b ∷ xs) (going_on (rw e at few'))

-- a text has a first line, or none
record HasLine (text : List ℕ) : Type 0 where
  line : List ℕ
  rest : List ℕ
  plain : Without 10 line
  is : text ≡ line ++ 10 ∷ rest

line_or_none : (text : List ℕ) → HasLine text ⊎ Without 10 text
line_or_none [] = inr tt
line_or_none (b ∷ bs) = by (b == 10) refl (line_or_none bs)
  where
    longer : (b == 10) ≡ false → HasLine bs ⊎ Without 10 bs → HasLine (b ∷ bs) ⊎ Without 10 (b ∷ bs)
    longer e (inl has) = inl (record { line = b ∷ has.line; rest = has.rest; plain = (e, has.plain); is = ap (λ xs. b ∷ xs) has.is })
    longer e (inr none) = inr (e, none)

    by : (feed : Bool) → (b == 10) ≡ feed → HasLine bs ⊎ Without 10 bs → HasLine (b ∷ bs) ⊎ Without 10 (b ∷ bs)
    by true e rest = let is : b ≡ 10 = grind (arith, nat_tests) in inl (record { line = []; rest = bs; plain = tt; is = ap (λ x. x ∷ bs) is })
    by false e rest = longer e rest

feeds_without : (text : List ℕ) → Without 10 text → line_feeds text ≡ 0
feeds_without [] plain = refl
feeds_without (b ∷ bs) plain = rw plain.0 (feeds_without bs plain.1)

pub unchanged : (bytes other : List ℕ) (n : ℕ) → IsFirstBadLine bytes n → first_lines n other ≡ first_lines n bytes → IsFirstBadLine other n
unchanged bytes other n refused same = by (line_or_none refused.behind)
  where
    plain : AllWithout 10 refused.before
    plain = begins_plain refused.before refused.good

    cut : first_lines n other ≡ ended refused.before ++ first_lines 1 refused.behind
    cut = same ∙ ap (first_lines n) refused.whole ∙ first_ended refused.before 1 refused.behind n refused.number plain

    by : HasLine refused.behind ⊎ Without 10 refused.behind → IsFirstBadLine other n
    by (inl has) =
        let left = behind_first n other in
        let first : first_lines 1 refused.behind ≡ has.line ++ 10 ∷ [] = ap (first_lines 1) has.is ∙ first_line 0 has.line has.rest has.plain in
        record {
          before = refused.before;
          behind = has.line ++ 10 ∷ left.0;
          whole = left.1 ∙ ap (λ xs. xs ++ left.0) (cut ∙ ap (λ xs. ended refused.before ++ xs) first) ∙ append_assoc (ended refused.before) (has.line ++ 10 ∷ []) left.0
              ∙ ap (λ xs. ended refused.before ++ xs) (append_assoc has.line (10 ∷ []) left.0);
          number = refused.number;
          good = refused.good;
          bad = λ line rest is begins.
              let one = same_line has.line line left.0 rest has.plain (plain_last refused.before line (begins_plain (refused.before ++ line ∷ []) begins)) is in
              let P : List ℕ → Type 0 = λ l. Begins (refused.before ++ l ∷ []) in
              refused.bad has.line has.rest has.is (subst P (sym one.0) begins);
          follows = λ none. absurd (no_line_in_nothing has.line left.0 (sym none));
        }
    by (inr none) =
        let all : first_lines n other ≡ ended refused.before ++ refused.behind = cut ∙ ap (λ xs. ended refused.before ++ xs) (no_feed 0 refused.behind none) in
        let feeds : line_feeds (first_lines n other) ≡ length refused.before + 0 =
        ap line_feeds all ∙ feeds_ended refused.before refused.behind plain ∙ ap (λ m. length refused.before + m) (feeds_without refused.behind none) in
        let whole : first_lines n other ≡ other = all_of_it n other (omega (arith, feeds, refused.number)) in
        record {
          before = refused.before;
          behind = refused.behind;
          whole = sym whole ∙ all;
          number = refused.number;
          good = refused.good;
          bad = λ line rest is begins. no_line refused.behind line rest none is;
          follows = refused.follows;
        }

-- ---- the lines in front

steps_read : (ls rest done : List (List ℕ)) (p q : Play) → Reads p done → steps (ls ++ rest) p ≡ Some q → (r : Play) × Reads r (done ++ ls)
steps_read [] rest done p q reads found = let P : List (List ℕ) → Type 0 = Reads p in (p, subst P (sym (append-nil done)) reads)
steps_read (l ∷ ls) rest done p q reads found = by (step p l) refl found (λ r is. steps_read ls rest (done ++ l ∷ []) r q is)
  where
    by : (o : Option Play) → step p l ≡ o → option_and_then (steps (ls ++ rest)) o ≡ Some q
        → ((r : Play) → Reads r (done ++ l ∷ []) → steps (ls ++ rest) r ≡ Some q → (s : Play) × Reads s ((done ++ l ∷ []) ++ ls)) → (s : Play) × Reads s (done ++ l ∷ ls)
    by None e found' go_on = cc
    by (Some r) e found' go_on =
        let s = go_on r (step_read p r done l reads e) found' in
        let P : List (List ℕ) → Type 0 = Reads s.0 in
        (s.0, subst P (append_assoc done (l ∷ []) ls) s.1)

begins_read : (l : List ℕ) (ls : List (List ℕ)) → Begins (l ∷ ls) → (p : Play) × Reads p (l ∷ ls)
begins_read l ls begins = by (header_of (words_of l)) refl (ap play_of_lines (sym begins.3) ∙ lines_taken begins.0 begins.1)
  where
    by : (o : Option Play) → header_of (words_of l) ≡ o → option_and_then (steps (ls ++ begins.2)) o ≡ Some begins.0 → (p : Play) × Reads p (l ∷ ls)
    by None e found = cc
    by (Some p) e found = steps_read ls begins.2 (l ∷ []) p begins.0 (header_read l p e) found

some_before : (before : List (List ℕ)) → 1 ≤ length before → Begins before → (p : Play) × Reads p before
some_before [] some begins = absurd (omega arith)
some_before (l ∷ ls) some begins = begins_read l ls begins

pub play_before : (bytes : List ℕ) (n : ℕ) → IsFirstBadLine bytes n → 2 ≤ n → (p : Play) × IsReadAs (first_lines (n - 1) bytes) (Ok p)
play_before bytes n refused several =
    let read = some_before refused.before (omega (arith, refused.number)) refused.good in
    let front : first_lines (n - 1) bytes ≡ ended refused.before ++ [] =
    ap (first_lines (n - 1)) refused.whole ∙ first_ended refused.before 0 refused.behind (n - 1) (omega (arith, refused.number)) (begins_plain refused.before refused.good) in
    (read.0, (read.1.play, front ∙ append-nil (ended refused.before) ∙ ap ended (sym read.1.written)))

-- ---- a wrong reader

abbrev one_send : ℕ → PlayAction
one_send id = record { moment = 0; node = 0; verb = Send (record { id = id; ext = false; kind = Data; bytes = [] }) }

abbrev sends : ℕ → Play
sends id = record idle { actions = one_send id ∷ [] }

sends-IsPlay : (id : ℕ) → is_well_formed (record { id = id; ext = false; kind = Data; bytes = [] }) ≡ true → IsPlay (sends id)
sends-IsPlay id fits = record {
  resolution = idle-IsPlay.resolution;
  rate = idle-IsPlay.rate;
  fd_rate = tt;
  nodes = idle-IsPlay.nodes;
  stop = idle-IsPlay.stop;
  few_errors = idle-IsPlay.few_errors;
  errors = idle-IsPlay.errors;
  actions = All-cons (IsAction 1 None) (one_send id) [] (record { moment = omega arith; node = omega arith; verb = record { well_formed = fits; bytes = All-nil (λ b. b < 256); rate = λ fd. cc } }) (All-nil (IsAction 1 None));
  rises = (omega arith, tt);
}

frame_is : (f g : Frame) (v : Verb) → with_frame f v ≡ Send g → f ≡ g
frame_is f g (Send h) same = cc
frame_is f g Wake same = cc
frame_is f g Sleep same = cc
frame_is f g Keep same = cc
frame_is f g Discard same = cc

one_frame : (f g : Frame) (m n : ℕ) (as' : List PlayAction) → map (action_with_frame f) as' ≡ record { moment = m; node = n; verb = Send g } ∷ [] → f ≡ g
one_frame f g m n [] same = cc
one_frame f g m n (a ∷ as') same =
    let first : action_with_frame f a ≡ record { moment = m; node = n; verb = Send g } = cc in
    frame_is f g a.verb (ap (λ (x : PlayAction). x.verb) first)

answered : (f g : Frame) (m n : ℕ) (r : Result Play ℕ) (q : Play) → q.actions ≡ record { moment = m; node = n; verb = Send g } ∷ [] → all_with_frame f r ≡ Ok q → f ≡ g
answered f g m n (Ok p) q one same =
    let play : record p { actions = map (action_with_frame f) p.actions } ≡ q = cc in
    one_frame f g m n p.actions (ap (λ (x : Play). x.actions) play ∙ one)
answered f g m n (Err k) q one same = cc

not_both : (n : ℕ) → n ≡ 0 → n ≡ 1 → ⊥
not_both n a b = omega arith

pub one_frame_isn't_exact : (read : List ℕ → Result Play ℕ) (f : Frame) → ¬ IsExact (λ bytes. all_with_frame f (read bytes))
one_frame_isn't_exact read f exact =
    let told : (id : ℕ) → is_well_formed (record { id = id; ext = false; kind = Data; bytes = [] }) ≡ true → f ≡ record { id = id; ext = false; kind = Data; bytes = [] } =
    λ id fits. answered f (record { id = id; ext = false; kind = Data; bytes = [] }) 0 0 (read (play_text (sends id))) (sends id) refl
    (one_answer (play_text (sends id)) (all_with_frame f (read (play_text (sends id)))) (Ok (sends id)) (exact (play_text (sends id))) (sends-IsPlay id fits, refl)) in
    not_both f.id (ap (λ (x : Frame). x.id) (told 0 refl)) (ap (λ (x : Frame). x.id) (told 1 refl))

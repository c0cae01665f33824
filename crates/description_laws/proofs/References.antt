-- The references of an accepted description are all different: what a reference names tells countdown clocks, the
-- clocks of terminals and their binaries apart.
use Rattle.std.proofs.Common.{◌≡◌, ℕ, ◌==◌, ◌||◌, Bool, true, false, List, [], ◌∷◌, ◌++◌, Ok, refl, sym, ap, subst, ◌∙◌, arith, cond, inl, inr}
use Rattle.std.specs.Prelude.{map, filter}
use Rattle.std.specs.List.{list_any, AllByRecursion}
use Rattle.std.proofs.lemmas.Bool.Decides.{nat_tests}
use Rattle.std.proofs.lemmas.List.Folds.{list_any-append}
use Rattle.unit_specs.specs.Description.{Description, Terminal}
use Rattle.description_specs.specs.declared.variable.Causality.{Causality}
use Rattle.description_specs.specs.declared.variable.Causality.TheVariants.{Input, Output}
use Rattle.description_specs.specs.declared.variable.IntervalVariability.{IntervalVariability}
use Rattle.description_specs.specs.declared.variable.IntervalVariability.TheVariants.{Triggered, Countdown}
use Rattle.description_specs.specs.declared.variable.ClockVariable.{ClockVariable}
use Rattle.description_specs.specs.declared.variable.BinaryVariable.{BinaryVariable}
use Rattle.description_specs.specs.Variables.{is_countdown}
use Rattle.description_specs.specs.Clocks.{countdown_references}
use Rattle.description_specs.specs.Descriptions.{description_of}
use Rattle.description_specs.specs.Terminals.{stands_in}
use Rattle.description_laws.specs.Fit.{AreDifferent, IsAmong, IsData, IsTerminal, HasClock, SharesNone, ShareNone, of_clocks, of_binaries, of_terminals, references_of}
use Rattle.description_laws.proofs.Steps.{either_false, flipped}
use Rattle.description_laws.proofs.AcceptedBinaries.{named}
use Rattle.description_laws.proofs.AcceptedTerminals.{description_fits}
use Rattle.description_laws.proofs.InRange.{of_one}

-- what a variable is, as a number: a countdown clock, a triggered clock by its causality, a binary by its causality
abbrev clock_kind : IntervalVariability → Causality → ℕ
clock_kind Countdown c = 0
clock_kind Triggered Input = 1
clock_kind Triggered Output = 2

abbrev binary_kind : Causality → ℕ
binary_kind Input = 3
binary_kind Output = 4

-- what the first binary, and the first clock or else binary, is that has this reference
abbrev binary_found : List BinaryVariable → ℕ → ℕ
binary_found [] r = 5
binary_found (b ∷ bs) r = cond (b.reference == r) (binary_kind b.causality) (binary_found bs r)

abbrev found : List ClockVariable → List BinaryVariable → ℕ → ℕ
found [] bs r = binary_found bs r
found (c ∷ cs) bs r = cond (c.reference == r) (clock_kind c.interval c.causality) (found cs bs r)

itself : (n : ℕ) → (n == n) ≡ true
itself n = grind (arith, nat_tests)

unlike : (m n : ℕ) → (m == n) ≡ false → m ≡ n → ⊥
unlike m n h e = grind (arith, nat_tests)

first_is : (b : Bool) (m n : ℕ) → b ≡ true → cond b m n ≡ m
first_is true m n h = refl
first_is false m n h = absurd (cc)

rest_is : (b : Bool) (m n : ℕ) → b ≡ false → cond b m n ≡ n
rest_is true m n h = absurd (cc)
rest_is false m n h = refl

-- a reference that none of them has is not that of one of them
not_its_own : {A : Type 0} (f : A → ℕ) (x : A) (xs : List A) (r : ℕ) → list_any (λ y. y == r) (map f xs) ≡ false → IsAmong x xs → (r == f x) ≡ false
not_its_own f x [] r h there = absurd there
not_its_own f x (y ∷ ys) r h (inl same) = subst (λ z. (r == f z) ≡ false) same (flipped r (f y) (either_false (f y == r) (list_any (λ z. z == r) (map f ys)) h).0)
not_its_own f x (y ∷ ys) r h (inr there) = not_its_own f x ys r (either_false (f y == r) (list_any (λ z. z == r) (map f ys)) h).1 there

binary_is : (bs : List BinaryVariable) (b : BinaryVariable) → AreDifferent (of_binaries bs) → IsAmong b bs → binary_found bs b.reference ≡ binary_kind b.causality
binary_is [] b d there = absurd there
binary_is (x ∷ xs) b d (inl same) =
    subst (λ (y : BinaryVariable). binary_found (x ∷ xs) y.reference ≡ binary_kind y.causality) same
    (first_is (x.reference == x.reference) (binary_kind x.causality) (binary_found xs x.reference) (itself x.reference))
binary_is (x ∷ xs) b d (inr there) =
    rest_is (x.reference == b.reference) (binary_kind x.causality) (binary_found xs b.reference) (not_its_own (λ (k : BinaryVariable). k.reference) b xs x.reference d.0 there) ∙ binary_is xs b d.1 there

-- neither the later clocks nor the binaries have this reference
neither_has : (cs : List ClockVariable) (bs : List BinaryVariable) (r : ℕ) → list_any (λ y. y == r) (of_clocks cs ++ of_binaries bs) ≡ false
    → (list_any (λ y. y == r) (of_clocks cs) ≡ false) × (list_any (λ y. y == r) (of_binaries bs) ≡ false)
neither_has cs bs r h = either_false (list_any (λ y. y == r) (of_clocks cs)) (list_any (λ y. y == r) (of_binaries bs)) (sym (list_any-append (λ y. y == r) (of_clocks cs) (of_binaries bs)) ∙ h)

clock_is : (cs : List ClockVariable) (bs : List BinaryVariable) (c : ClockVariable) → AreDifferent (of_clocks cs ++ of_binaries bs) → IsAmong c cs → found cs bs c.reference ≡ clock_kind c.interval c.causality
clock_is [] bs c d there = absurd there
clock_is (x ∷ xs) bs c d (inl same) =
    subst (λ (y : ClockVariable). found (x ∷ xs) bs y.reference ≡ clock_kind y.interval y.causality) same
    (first_is (x.reference == x.reference) (clock_kind x.interval x.causality) (found xs bs x.reference) (itself x.reference))
clock_is (x ∷ xs) bs c d (inr there) =
    rest_is (x.reference == c.reference) (clock_kind x.interval x.causality) (found xs bs c.reference)
    (not_its_own (λ (k : ClockVariable). k.reference) c xs x.reference (neither_has xs bs x.reference d.0).0 there)
    ∙ clock_is xs bs c d.1 there

binary_in : (cs : List ClockVariable) (bs : List BinaryVariable) (b : BinaryVariable) → AreDifferent (of_clocks cs ++ of_binaries bs) → IsAmong b bs → found cs bs b.reference ≡ binary_kind b.causality
binary_in [] bs b d there = binary_is bs b d there
binary_in (x ∷ xs) bs b d there =
    rest_is (x.reference == b.reference) (clock_kind x.interval x.causality) (found xs bs b.reference)
    (not_its_own (λ (k : BinaryVariable). k.reference) b bs x.reference (neither_has xs bs x.reference d.0).1 there)
    ∙ binary_in xs bs b d.1 there

-- two references of different kinds are different
apart_at : (f : ℕ → ℕ) (a b : ℕ) (test : Bool) → (a == b) ≡ test → (f a ≡ f b → ⊥) → (a == b) ≡ false
apart_at f a b true e h = absurd (h (ap f (named a b e)))
apart_at f a b false e h = e

apart : (f : ℕ → ℕ) (a b m n : ℕ) → f a ≡ m → f b ≡ n → (m == n) ≡ false → (a == b) ≡ false
apart f a b m n p q h = apart_at f a b (a == b) refl (λ e. unlike m n h (sym p ∙ (e ∙ q)))

-- the kinds of the four variables of a terminal
record HasKinds (f : ℕ → ℕ) (t : Terminal) : Type 0 where
  rx_data : f t.rx_data ≡ 3
  rx_clock : f t.rx_clock ≡ 1
  tx_data : f t.tx_data ≡ 4
  tx_clock : f t.tx_clock ≡ 2

module _ (cs : List ClockVariable) (bs : List BinaryVariable) (d : AreDifferent (of_clocks cs ++ of_binaries bs)) (clocked : AllByRecursion (HasClock cs) bs) where
  data_kind : (c : Causality) (r clock most : ℕ) → IsData bs c r clock most → found cs bs r ≡ binary_kind c
  data_kind c r clock most i =
      subst (λ n. found cs bs n ≡ binary_kind c) i.named (binary_in cs bs i.binary d i.there ∙ ap binary_kind i.alike)

  trigger_kind : (c : Causality) (r clock most : ℕ) → IsData bs c r clock most → found cs bs clock ≡ clock_kind Triggered c
  trigger_kind c r clock most i =
      let k = of_one (HasClock cs) i.binary bs clocked i.there in
      subst (λ n. found cs bs n ≡ clock_kind Triggered c) (k.named ∙ i.clocked)
      (clock_is cs bs k.clock d k.there ∙ (ap (λ v. clock_kind v k.clock.causality) k.triggered ∙ ap (clock_kind Triggered) (k.alike ∙ i.alike)))

  kinds : (ts : List Terminal) → AllByRecursion (IsTerminal bs) ts → AllByRecursion (HasKinds (found cs bs)) ts
  kinds [] all = tt
  kinds (t ∷ ts) all = (
    record {
      rx_data = data_kind Input t.rx_data t.rx_clock t.rx_max all.0.rx;
      rx_clock = trigger_kind Input t.rx_data t.rx_clock t.rx_max all.0.rx;
      tx_data = data_kind Output t.tx_data t.tx_clock t.tx_max all.0.tx;
      tx_clock = trigger_kind Output t.tx_data t.tx_clock t.tx_max all.0.tx;
    },
    kinds ts all.1,
  )

or_false : (a b : Bool) → a ≡ false → b ≡ false → (a || b) ≡ false
or_false a b p q = rw (p, q)

-- what stands in no part of a terminal is none of its variables
parts : (y : ℕ) (t : Terminal) → stands_in y t ≡ false → ((y == t.rx_data) ≡ false) × ((y == t.tx_data) ≡ false) × ((y == t.rx_clock) ≡ false) × ((y == t.tx_clock) ≡ false)
parts y t h =
    let k = either_false ((y == t.rx_data) || (y == t.tx_data)) ((y == t.rx_clock) || (y == t.tx_clock)) h in
    let l = either_false (y == t.rx_data) (y == t.tx_data) k.0 in
    let m = either_false (y == t.rx_clock) (y == t.tx_clock) k.1 in
    (l.0, l.1, m.0, m.1)

-- a variable of a terminal is none of those of later terminals
none_later : (t : Terminal) (a : ℕ) → ((y : ℕ) → stands_in y t ≡ false → (y == a) ≡ false) → (ts : List Terminal) → AllByRecursion (SharesNone t) ts → list_any (λ y. y == a) (of_terminals ts) ≡ false
none_later t a k [] s = refl
none_later t a k (u ∷ us) s =
    let rest = none_later t a k us s.1 in
    let fourth = or_false (u.tx_clock == a) (list_any (λ y. y == a) (of_terminals us)) (k u.tx_clock s.0.tx_clock) rest in
    let third = or_false (u.tx_data == a) _ (k u.tx_data s.0.tx_data) fourth in
    let second = or_false (u.rx_clock == a) _ (k u.rx_clock s.0.rx_clock) third in
    or_false (u.rx_data == a) _ (k u.rx_data s.0.rx_data) second

terminals_different : (f : ℕ → ℕ) (ts : List Terminal) → AllByRecursion (HasKinds f) ts → ShareNone ts → AreDifferent (of_terminals ts)
terminals_different f [] are share = tt
terminals_different f (t ∷ ts) are share =
    let k = are.0 in
    let after_rx_data = none_later t t.rx_data (λ y h. (parts y t h).0) ts share.0 in
    let after_tx_data = none_later t t.tx_data (λ y h. (parts y t h).1) ts share.0 in
    let after_rx_clock = none_later t t.rx_clock (λ y h. (parts y t h).2) ts share.0 in
    let after_tx_clock = none_later t t.tx_clock (λ y h. (parts y t h).3) ts share.0 in
    let a = or_false (t.tx_clock == t.rx_data) _ (apart f t.tx_clock t.rx_data 2 3 k.tx_clock k.rx_data refl) after_rx_data in
    let b = or_false (t.tx_data == t.rx_data) _ (apart f t.tx_data t.rx_data 4 3 k.tx_data k.rx_data refl) a in
    let c = or_false (t.tx_clock == t.rx_clock) _ (apart f t.tx_clock t.rx_clock 2 1 k.tx_clock k.rx_clock refl) after_rx_clock in (
      or_false (t.rx_clock == t.rx_data) _ (apart f t.rx_clock t.rx_data 1 3 k.rx_clock k.rx_data refl) b,
      (
        or_false (t.tx_data == t.rx_clock) _ (apart f t.tx_data t.rx_clock 4 1 k.tx_data k.rx_clock refl) c,
        (
          or_false (t.tx_clock == t.tx_data) _ (apart f t.tx_clock t.tx_data 2 4 k.tx_clock k.tx_data refl) after_tx_data,
          (after_tx_clock, terminals_different f ts are.1 share.1),
        ),
      ),
    )

-- no variable of a terminal counts down
no_countdown : (f : ℕ → ℕ) (ts : List Terminal) → AllByRecursion (HasKinds f) ts → AllByRecursion (λ x. (f x == 0) ≡ false) (of_terminals ts)
no_countdown f [] are = tt
no_countdown f (t ∷ ts) are =
    let k = are.0 in
    (rw k.rx_data refl, (rw k.rx_clock refl, (rw k.tx_data refl, (rw k.tx_clock refl, no_countdown f ts are.1))))

counts_down : (i : IntervalVariability) (c : Causality) → is_countdown i ≡ true → clock_kind i c ≡ 0
counts_down Countdown c h = refl
counts_down Triggered c h = absurd (cc)

countdown_kind_at : (f : ℕ → ℕ) (b : Bool) (x : ClockVariable) (xs : List ClockVariable) → (b ≡ true → f x.reference ≡ 0) → AllByRecursion (λ r. f r ≡ 0) (map (λ (c : ClockVariable). c.reference) xs)
    → AllByRecursion (λ r. f r ≡ 0) (map (λ (c : ClockVariable). c.reference) (cond b (x ∷ xs) xs))
countdown_kind_at f true x xs h rest = (h refl, rest)
countdown_kind_at f false x xs h rest = rest

countdown_kinds : (f : ℕ → ℕ) (cs : List ClockVariable) → ((c : ClockVariable) → IsAmong c cs → f c.reference ≡ clock_kind c.interval c.causality) → AllByRecursion (λ r. f r ≡ 0) (countdown_references cs)
countdown_kinds f [] is = tt
countdown_kinds f (c ∷ cs) is =
    countdown_kind_at f (is_countdown c.interval) c (filter (λ (k : ClockVariable). is_countdown k.interval) cs)
    (λ h. is c (inl refl) ∙ counts_down c.interval c.causality h)
    (countdown_kinds f cs (λ k there. is k (inr there)))

none_kept_at : (b : Bool) (r : ℕ) (x : ClockVariable) (xs : List ClockVariable) → (x.reference == r) ≡ false → list_any (λ y. y == r) (of_clocks xs) ≡ false → list_any (λ y. y == r) (of_clocks (cond b (x ∷ xs) xs)) ≡ false
none_kept_at true r x xs here rest = or_false (x.reference == r) (list_any (λ y. y == r) (of_clocks xs)) here rest
none_kept_at false r x xs here rest = rest

none_kept : (r : ℕ) (cs : List ClockVariable) → list_any (λ y. y == r) (of_clocks cs) ≡ false → list_any (λ y. y == r) (countdown_references cs) ≡ false
none_kept r [] h = refl
none_kept r (c ∷ cs) h =
    let k = either_false (c.reference == r) (list_any (λ y. y == r) (of_clocks cs)) h in
    none_kept_at (is_countdown c.interval) r c (filter (λ (x : ClockVariable). is_countdown x.interval) cs) k.0 (none_kept r cs k.1)

countdown_different_at : (b : Bool) (x : ClockVariable) (xs : List ClockVariable) → list_any (λ y. y == x.reference) (of_clocks xs) ≡ false → AreDifferent (of_clocks xs) → AreDifferent (of_clocks (cond b (x ∷ xs) xs))
countdown_different_at true x xs h rest = (h, rest)
countdown_different_at false x xs h rest = rest

countdown_different : (cs : List ClockVariable) → AreDifferent (of_clocks cs) → AreDifferent (countdown_references cs)
countdown_different [] d = tt
countdown_different (c ∷ cs) d =
    countdown_different_at (is_countdown c.interval) c (filter (λ (x : ClockVariable). is_countdown x.interval) cs) (none_kept c.reference cs d.0) (countdown_different cs d.1)

-- a reference that counts down is none of those that don't
none_counts : (f : ℕ → ℕ) (r : ℕ) (xs : List ℕ) → f r ≡ 0 → AllByRecursion (λ x. (f x == 0) ≡ false) xs → list_any (λ y. y == r) xs ≡ false
none_counts f r [] h all = refl
none_counts f r (x ∷ xs) h all = or_false (x == r) (list_any (λ y. y == r) xs) (apart f x r (f x) 0 refl h all.0) (none_counts f r xs h all.1)

together : (f : ℕ → ℕ) (rs xs : List ℕ) → AreDifferent rs → AllByRecursion (λ r. f r ≡ 0) rs → AreDifferent xs → AllByRecursion (λ x. (f x == 0) ≡ false) xs → AreDifferent (rs ++ xs)
together f [] xs d zero e all = e
together f (r ∷ rs) xs d zero e all =
    (list_any-append (λ y. y == r) rs xs ∙ or_false (list_any (λ y. y == r) rs) (list_any (λ y. y == r) xs) d.0 (none_counts f r xs zero.0 all), together f rs xs d.1 zero.1 e all)

pub references_different : (bytes : List ℕ) (d : Description) → description_of bytes ≡ Ok d → AreDifferent (references_of d)
references_different bytes d h =
    let fit = description_fits bytes d h in
    let f = found fit.clocks fit.binaries in
    let k = kinds fit.clocks fit.binaries fit.binaries_fit.different fit.binaries_fit.clocked d.terminals fit.terminals_fit.each_is in
    subst (λ rs. AreDifferent (rs ++ of_terminals d.terminals)) (sym fit.countdown)
    (together f (countdown_references fit.clocks) (of_terminals d.terminals)
    (countdown_different fit.clocks fit.clocks_fit.different)
    (countdown_kinds f fit.clocks (λ c there. clock_is fit.clocks fit.binaries c fit.binaries_fit.different there))
    (terminals_different f d.terminals k fit.terminals_fit.apart)
    (no_countdown f d.terminals k))

-- The first row that is refused.
use Rattle.std.proofs.Common.{◌≡◌, ℕ, ◌+◌, List, [], ◌∷◌, ◌++◌, length, Option, Some, None, Result, Ok, Err, refl, sym, ap, ◌∙◌, arith, codes, length-append}
use Rattle.toml.specs.Data.{Members}
use Rattle.document_specs.specs.Checks.{◌>>=◌, needs, each}
use Rattle.document_specs.specs.Documents.{text, number}
use Rattle.unit_specs.specs.Description.{Terminal}
use Rattle.description_specs.specs.declared.field.Field.{Field}
use Rattle.description_specs.specs.declared.field.Field.TheVariants as field
use Rattle.description_specs.specs.declared.variable.Causality.TheVariants.{Input, Output}
use Rattle.description_specs.specs.declared.variable.ClockVariable.{ClockVariable}
use Rattle.description_specs.specs.declared.variable.BinaryVariable.{BinaryVariable}
use Rattle.description_specs.specs.Variables.{Refusal, refusal, causality}
use Rattle.description_specs.specs.Clocks.{clock_of, clock_at, new_among_clocks, interval}
use Rattle.description_specs.specs.Binaries.{binary_of, binary_at, new_reference, trigger}
use Rattle.description_specs.specs.Terminals.{terminal_of, terminal_at, new_name, data_at, its_clock}
use Rattle.description_laws.specs.Order.{IsFirstRefusal}

-- the rows in front of the first that is refused, and it
record Split {E T A : Type 0} (read : List A → T → Result A E) (before : List A) (ts : List T) (e : E) : Type 0 where
  front : List T
  row : T
  back : List T
  done : List A
  all : ts ≡ front ++ row ∷ back
  passed : each read before front ≡ Ok done
  refused : read done row ≡ Err e
  long : length done ≡ length before + length front

goes : {E T A : Type 0} (read : List A → T → Result A E) (before : List A) (t : T) (ts : List T) (e : E) (x : A) → read before t ≡ Ok x → Split read (before ++ x ∷ []) ts e → Split read before (t ∷ ts) e
goes read before t ts e x is s = record {
  front = t ∷ s.front;
  row = s.row;
  back = s.back;
  done = s.done;
  all = ap (λ us. t ∷ us) s.all;
  passed = ap (λ r. r >>= λ y. each read (before ++ y ∷ []) s.front) is ∙ s.passed;
  refused = s.refused;
  long = omega (arith, s.long, length-append before (x ∷ []));
}

split_at : {E T A : Type 0} (read : List A → T → Result A E) (before : List A) (t : T) (ts : List T) (e : E) (r : Result A E) → read before t ≡ r → (r >>= λ x. each read (before ++ x ∷ []) ts) ≡ Err e
    → ((x : A) → each read (before ++ x ∷ []) ts ≡ Err e → Split read (before ++ x ∷ []) ts e) → Split read before (t ∷ ts) e
split_at read before t ts e (Ok x) is h rest = goes read before t ts e x is (rest x h)
split_at read before t ts e (Err f) is h rest = record { front = []; row = t; back = ts; done = before; all = refl; passed = refl; refused = is ∙ (let same : f ≡ e = cc in ap Err same); long = omega arith }

split : {E T A : Type 0} (read : List A → T → Result A E) (before : List A) (ts : List T) (e : E) → each read before ts ≡ Err e → Split read before ts e
split read before [] e h = absurd (cc)
split read before (t ∷ ts) e h = split_at read before t ts e (read before t) refl h (λ x. split read (before ++ x ∷ []) ts e)

-- a reader whose refusals name the position of their row
first : {A : Type 0} (read : List A → Members → Result A Refusal) → ((before : List A) (t : Members) (e : Refusal) → read before t ≡ Err e → e.place ≡ length before)
    → (rows : List Members) (e : Refusal) → each read [] rows ≡ Err e → IsFirstRefusal read rows e
first read place_of rows e h =
    let s = split read [] rows e h in
    record { front = s.front; row = s.row; back = s.back; before = s.done; all = s.all; accepted = s.passed; refused = s.refused; place = place_of s.done s.row e s.refused ∙ (s.long ∙ omega arith) }

-- a refusal is that of the check, or of what follows
or_later : {A B : Type 0} (f : Field) (place : ℕ) (o : Option A) (g : A → Result B Refusal) (e : Refusal) → (needs (refusal f place) o >>= g) ≡ Err e → ((x : A) → g x ≡ Err e → e.place ≡ place) → e.place ≡ place
or_later f place (Some x) g e h rest = rest x h
or_later f place None g e h rest = let same : refusal f place ≡ e = cc in sym (ap (λ (p : Refusal). p.place) same)

clock_place : (before : List ClockVariable) (t : Members) (e : Refusal) → clock_of before t ≡ Err e → e.place ≡ length before
unfolding clock_at
clock_place before t e h =
    or_later field.ClockName (length before) (text (codes "name") t) _ e h (λ name h1.
    or_later field.ClockValueReference (length before) (new_among_clocks before t) _ e h1 (λ r h2.
    or_later field.ClockCausality (length before) (causality t) _ e h2 (λ c h3.
    or_later field.ClockIntervalVariability (length before) (interval c before t) _ e h3 (λ i h4. absurd (cc h4)))))

binary_place : (clocks : List ClockVariable) (before : List BinaryVariable) (t : Members) (e : Refusal) → binary_of clocks before t ≡ Err e → e.place ≡ length before
unfolding binary_at
binary_place clocks before t e h =
    or_later field.BinaryName (length before) (text (codes "name") t) _ e h (λ name h1.
    or_later field.BinaryValueReference (length before) (new_reference clocks before t) _ e h1 (λ r h2.
    or_later field.BinaryCausality (length before) (causality t) _ e h2 (λ c h3.
    or_later field.BinaryClocks (length before) (trigger clocks c t) _ e h3 (λ clock h4.
    or_later field.BinaryMaxSize (length before) (number 256 65536 (codes "maxSize") t) _ e h4 (λ most h5. absurd (cc h5))))))

terminal_place : (binaries : List BinaryVariable) (before : List Terminal) (t : Members) (e : Refusal) → terminal_of binaries before t ≡ Err e → e.place ≡ length before
unfolding terminal_at
terminal_place binaries before t e h =
    or_later field.TerminalName (length before) (new_name before t) _ e h (λ name h1.
    or_later field.TerminalRxData (length before) (data_at Input binaries before (codes "Rx_Data") t) _ e h1 (λ rx h2.
    or_later field.TerminalRxClock (length before) (its_clock rx before (codes "Rx_Clock") t) _ e h2 (λ rx_clock h3.
    or_later field.TerminalTxData (length before) (data_at Output binaries before (codes "Tx_Data") t) _ e h3 (λ tx h4.
    or_later field.TerminalTxClock (length before) (its_clock tx before (codes "Tx_Clock") t) _ e h4 (λ tx_clock h5. absurd (cc h5))))))

pub first_clock : (rows : List Members) (e : Refusal) → each clock_of [] rows ≡ Err e → IsFirstRefusal clock_of rows e
first_clock = first clock_of clock_place

pub first_binary : (clocks : List ClockVariable) (rows : List Members) (e : Refusal) → each (binary_of clocks) [] rows ≡ Err e → IsFirstRefusal (binary_of clocks) rows e
first_binary clocks = first (binary_of clocks) (binary_place clocks)

pub first_terminal : (binaries : List BinaryVariable) (rows : List Members) (e : Refusal) → each (terminal_of binaries) [] rows ≡ Err e → IsFirstRefusal (terminal_of binaries) rows e
first_terminal binaries = first (terminal_of binaries) (terminal_place binaries)

-- Rows that agree are read alike.
use Rattle.std.proofs.Common.{◌≡◌, ℕ, Bool, true, false, ◌&&◌, List, [], ◌∷◌, ◌++◌, length, Some, None, Result, Ok, Err, refl, ap, ◌∙◌, arith, inl, inr}
use Rattle.std.specs.Prelude.{if◌then◌else◌, unwrap_or}
use Rattle.toml.specs.Data.{Data, Items, no_items, item, Members, no_members, as_table}
use Rattle.document_specs.specs.Checks.{◌>>=◌, needs, each}
use Rattle.document_specs.specs.Documents.{are_tables, tables_of, is_within}
use Rattle.description_laws.specs.Keys.{AgreeAt, RowAgrees, RowsAgree}

pub bind_same : {E A B : Type 0} (r : Result A E) (f g : A → Result B E) → ((x : A) → f x ≡ g x) → (r >>= f) ≡ (r >>= g)
bind_same (Ok x) f g same = same x
bind_same (Err e) f g same = refl

rows_are : (keys : List (List ℕ)) (ds es : Items) → RowsAgree keys ds es → are_tables ds ≡ are_tables es
rows_are keys no_items no_items agree = refl
rows_are keys no_items (item e es) agree = absurd agree
rows_are keys (item d ds) no_items agree = absurd agree
rows_are keys (item d ds) (item e es) (inl same, more) = rw (same, rows_are keys ds es more) refl
rows_are keys (item d ds) (item e es) (inr k, more) = rw (k.is_one, k.is_other, rows_are keys ds es more) refl

rows_many : (keys : List (List ℕ)) (ds es : Items) → RowsAgree keys ds es → length (tables_of ds) ≡ length (tables_of es)
rows_many keys no_items no_items agree = refl
rows_many keys no_items (item e es) agree = absurd agree
rows_many keys (item d ds) no_items agree = absurd agree
rows_many keys (item d ds) (item e es) agree = omega (arith, rows_many keys ds es agree.1)

row_read : {A E : Type 0} (keys : List (List ℕ)) (read : Members → Result A E) → ((t u : Members) → AgreeAt keys t u → read t ≡ read u)
    → (d e : Data) → RowAgrees keys d e → read (unwrap_or (as_table d) no_members) ≡ read (unwrap_or (as_table e) no_members)
row_read keys read alike d e (inl same) = rw same refl
row_read keys read alike d e (inr k) = rw (k.is_one, k.is_other) (alike k.one k.other k.agree)

rows_read : {A E : Type 0} (keys : List (List ℕ)) (read : List A → Members → Result A E)
    → ((before : List A) (t u : Members) → AgreeAt keys t u → read before t ≡ read before u)
    → (ds es : Items) → RowsAgree keys ds es → (before : List A) → each read before (tables_of ds) ≡ each read before (tables_of es)
rows_read keys read alike no_items no_items agree before = refl
rows_read keys read alike no_items (item e es) agree before = absurd agree
rows_read keys read alike (item d ds) no_items agree before = absurd agree
rows_read keys read alike (item d ds) (item e es) agree before =
    ap (λ r. r >>= λ x. each read (before ++ x ∷ []) (tables_of ds)) (row_read keys (read before) (alike before) d e agree.0)
    ∙ bind_same (read before (unwrap_or (as_table e) no_members)) (λ x. each read (before ++ x ∷ []) (tables_of ds))
    (λ x. each read (before ++ x ∷ []) (tables_of es))
    (λ x. rows_read keys read alike ds es agree.1 (before ++ x ∷ []))

chosen : {A E : Type 0} (fault : E) (b : Bool) (xs ys : List Members) (f : List Members → Result A E) → f xs ≡ f ys
    → (needs fault (if b then Some xs else None) >>= f) ≡ (needs fault (if b then Some ys else None) >>= f)
chosen fault true xs ys f same = same
chosen fault false xs ys f same = refl

-- the rows of two arrays, so many of them
pub some_rows : {A E : Type 0} (keys : List (List ℕ)) (fault : E) (low high : ℕ) (read : List A → Members → Result A E)
    → ((before : List A) (t u : Members) → AgreeAt keys t u → read before t ≡ read before u)
    → (ds es : Items) → RowsAgree keys ds es
    → (needs fault (if are_tables ds && is_within low high (length (tables_of ds)) then Some (tables_of ds) else None) >>= each read [])
    ≡ (needs fault (if are_tables es && is_within low high (length (tables_of es)) then Some (tables_of es) else None) >>= each read [])
some_rows keys fault low high read alike ds es agree =
    ap (λ b. needs fault (if b && is_within low high (length (tables_of ds)) then Some (tables_of ds) else None) >>= each read [])
    (rows_are keys ds es agree)
    ∙ (ap (λ n. needs fault (if are_tables es && is_within low high n then Some (tables_of ds) else None) >>= each read [])
    (rows_many keys ds es agree)
    ∙ chosen fault (are_tables es && is_within low high (length (tables_of es))) (tables_of ds) (tables_of es) (each read [])
    (rows_read keys read alike ds es agree []))

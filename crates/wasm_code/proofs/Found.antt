-- Nested code that was read is spelled so.
use Rattle.std.proofs.Common.{◌≡◌, ℕ, zero, suc, ◌-◌, ◌<◌, ◌≤◌, Bool, true, false, cond, List, [], ◌∷◌, ◌++◌, length, Option, Result, Ok, Err, refl, sym, ap, subst, ◌∙◌, arith, append_assoc, inl, inr}
use Rattle.std.specs.Prelude.{◌⊎◌, nat_lt}
use Rattle.std.proofs.lemmas.Bool.{ltb-true}
use Rattle.leb_bytes.proofs.Spelled.{IsBytes}
use Rattle.wasm_types.specs.declared.instr.ValType.{ValType}
use Rattle.wasm_types.specs.Nested.{Code, Nil, Leaf, IfElse}
use Rattle.module_specs.specs.declared.fault.Fault.{Fault}
use Rattle.module_specs.specs.declared.fault.Fault.TheVariants.{Limit}
use Rattle.module_specs.specs.declared.opcodes.Kind.{Kind}
use Rattle.module_specs.specs.declared.opcodes.Kind.TheVariants as kind
use Rattle.module_specs.specs.declared.token.Token.{Token}
use Rattle.module_specs.specs.declared.token.Token.TheVariants.{Plain, Opens, Else, End}
use Rattle.wasm_code.proofs.Tokens.{Spelled, token_here}
use Rattle.module_specs.specs.Reading.{Read, ◌>>=◌, block_type_at}
use Rattle.module_specs.specs.CodeReading.{Part, First, Second, made, Open, token_at, after_else, act, code_from, code_at}
use Rattle.module_specs.specs.CodeSpelling.{most_nested, SpellsCode, SpellsExpr}
use Rattle.module_specs.specs.Spelling.{Here, block_byte}
use Rattle.module_specs.proofs.Places.{bind_ok, ok_is, here_join}
use Rattle.module_specs.specs.Opcodes.{kind_byte}
use Rattle.module_specs.proofs.ValueTypes.{block_here}

abbrev To : Type 1
To = (Code → Code) → List ℕ → Type 0

-- What is left of a list that is open, up to its end, and then what is left of the list around it.
abbrev ByEnd : ℕ → Part → (Code → Code) → To → To
ByEnd room what before k list text =
    (d : Code) × (one : List ℕ) × (two : List ℕ) × (text ≡ one ++ 0x0B ∷ two) × SpellsCode room d one × k (λ rest. before (made what (list d) rest)) two

abbrev ByElse : ℕ → Option ValType → (Code → Code) → To → To
ByElse room r before k list text =
    (d : Code) × (e : Code) × (one : List ℕ) × (two : List ℕ) × (three : List ℕ) × (text ≡ one ++ 0x05 ∷ (two ++ 0x0B ∷ three))
    × SpellsCode room d one × SpellsCode room e two × k (λ rest. before (IfElse r (list d) e rest)) three

abbrev Closes : ℕ → Part → (Code → Code) → To → To
Closes room (First kind.If r) before k list text = ByEnd room (First kind.If r) before k list text ⊎ ByElse room r before k list text
Closes room what before k list text = ByEnd room what before k list text

-- The text has what is left of all lists that are open, and the whole is this code.
abbrev Completes : Code → List Open → To
Completes c [] list text = (d : Code) × (one : List ℕ) × (text ≡ one ++ 0x0B ∷ []) × SpellsCode most_nested d one × (c ≡ list d)
Completes c (o ∷ os) list text = Closes (most_nested - length (o ∷ os)) o.what o.before (Completes c os) list text

-- what stands at the front of what is left of a list
abbrev Fronts : ℕ → (Code → Code) → List ℕ → Type 0
Fronts room f t = (d : Code) (u : List ℕ) → SpellsCode room d u → SpellsCode room (f d) (t ++ u)

grow_end : (room : ℕ) (what : Part) (before : Code → Code) (k : To) (list f : Code → Code) (t u : List ℕ) → Fronts room f t
    → ByEnd room what before k (λ rest. list (f rest)) u → ByEnd room what before k list (t ++ u)
grow_end room what before k list f t u fr x =
    (f x.0, t ++ x.1, x.2, ap (λ l. t ++ l) x.3 ∙ sym (append_assoc t x.1 (0x0B ∷ x.2)), fr x.0 x.1 x.4, x.5)

grow_else : (room : ℕ) (r : Option ValType) (before : Code → Code) (k : To) (list f : Code → Code) (t u : List ℕ) → Fronts room f t
    → ByElse room r before k (λ rest. list (f rest)) u → ByElse room r before k list (t ++ u)
grow_else room r before k list f t u fr x =
    (f x.0, x.1, t ++ x.2, x.3, x.4, ap (λ l. t ++ l) x.5 ∙ sym (append_assoc t x.2 (0x05 ∷ (x.3 ++ 0x0B ∷ x.4))), fr x.0 x.2 x.6, x.7, x.8)

grow_closes : (room : ℕ) (what : Part) (before : Code → Code) (k : To) (list f : Code → Code) (t u : List ℕ) → Fronts room f t
    → Closes room what before k (λ rest. list (f rest)) u → Closes room what before k list (t ++ u)
grow_closes room (First kind.If r) before k list f t u fr (inl x) = inl (grow_end room (First kind.If r) before k list f t u fr x)
grow_closes room (First kind.If r) before k list f t u fr (inr x) = inr (grow_else room r before k list f t u fr x)
grow_closes room (First kind.Block r) before k list f t u fr x = grow_end room (First kind.Block r) before k list f t u fr x
grow_closes room (First kind.Loop r) before k list f t u fr x = grow_end room (First kind.Loop r) before k list f t u fr x
grow_closes room (Second r d) before k list f t u fr x = grow_end room (Second r d) before k list f t u fr x

grow : (c : Code) (os : List Open) (list f : Code → Code) (t u : List ℕ) → Fronts (most_nested - length os) f t
    → Completes c os (λ rest. list (f rest)) u → Completes c os list (t ++ u)
grow c [] list f t u fr x = (f x.0, t ++ x.1, ap (λ l. t ++ l) x.2 ∙ sym (append_assoc t x.1 (0x0B ∷ [])), fr x.0 x.1 x.3, x.4)
grow c (o ∷ os) list f t u fr x = grow_closes (most_nested - length (o ∷ os)) o.what o.before (Completes c os) list f t u fr x

-- an end is what is left of a list that ends
ends_now : (room : ℕ) (what : Part) (before : Code → Code) (k : To) (list : Code → Code) (u : List ℕ) → k (λ rest. before (made what (list Nil) rest)) u
    → Closes room what before k list (0x0B ∷ u)
ends_now room (First kind.If r) before k list u x = inl (Nil, [], u, refl, refl, x)
ends_now room (First kind.Block r) before k list u x = (Nil, [], u, refl, refl, x)
ends_now room (First kind.Loop r) before k list u x = (Nil, [], u, refl, refl, x)
ends_now room (Second r d) before k list u x = (Nil, [], u, refl, refl, x)

-- a list with an end, at the front of what is left of the list around it
front_list : (k : Kind) (r : Option ValType) (d : Code) (room : ℕ) (one : List ℕ) → 0 < room → SpellsCode (room - 1) d one
    → Fronts room (made (First k r) d) (kind_byte k ∷ block_byte r ∷ (one ++ 0x0B ∷ []))
front_list kind.Block r d room one some s e u su = (one, u, ap (λ l. 0x02 ∷ block_byte r ∷ l) (append_assoc one (0x0B ∷ []) u), some, s, su)
front_list kind.Loop r d room one some s e u su = (one, u, ap (λ l. 0x03 ∷ block_byte r ∷ l) (append_assoc one (0x0B ∷ []) u), some, s, su)
front_list kind.If r d room one some s e u su = (one, u, ap (λ l. 0x04 ∷ block_byte r ∷ l) (append_assoc one (0x0B ∷ []) u), some, s, su)

front_lists : (r : Option ValType) (d e : Code) (room : ℕ) (one two : List ℕ) → 0 < room → SpellsCode (room - 1) d one → SpellsCode (room - 1) e two
    → Fronts room (IfElse r d e) (0x04 ∷ block_byte r ∷ (one ++ 0x05 ∷ (two ++ 0x0B ∷ [])))
front_lists r d e room one two some s1 s2 g u su =
    (one, two, u, ap (λ l. 0x04 ∷ block_byte r ∷ l) (append_assoc one (0x05 ∷ (two ++ 0x0B ∷ [])) u ∙ ap (λ l. one ++ 0x05 ∷ l) (append_assoc two (0x0B ∷ []) u)), some, s1, s2, su)

module _ (c : Code) (os : List Open) (list : Code → Code) (r : Option ValType) (lt : length os < most_nested) where
  deeper : (o : Open) (d : Code) (one : List ℕ) → SpellsCode (most_nested - length (o ∷ os)) d one → SpellsCode (most_nested - length os - 1) d one
  deeper o d one s = subst (λ n. SpellsCode n d one) (omega arith) s

  around_end : (k : Kind) (text : List ℕ) → ByEnd (most_nested - length (record { what = First k r; before = list } ∷ os)) (First k r) list (Completes c os) (λ rest. rest) text
      → Completes c os list (kind_byte k ∷ block_byte r ∷ text)
  around_end k text x =
      let o : Open = record { what = First k r; before = list } in
      let front = kind_byte k ∷ block_byte r ∷ (x.1 ++ 0x0B ∷ []) in
      let is : front ++ x.2 ≡ kind_byte k ∷ block_byte r ∷ text = ap (λ l. kind_byte k ∷ block_byte r ∷ l) (append_assoc x.1 (0x0B ∷ []) x.2 ∙ sym x.3) in
      subst (Completes c os list) is
      (grow c os list (made (First k r) x.0) front x.2 (front_list k r x.0 (most_nested - length os) x.1 (omega arith) (deeper o x.0 x.1 x.4)) x.5)

  around_else : (text : List ℕ) → ByElse (most_nested - length (record { what = First kind.If r; before = list } ∷ os)) r list (Completes c os) (λ rest. rest) text
      → Completes c os list (0x04 ∷ block_byte r ∷ text)
  around_else text x =
      let o : Open = record { what = First kind.If r; before = list } in
      let front = 0x04 ∷ block_byte r ∷ (x.2 ++ 0x05 ∷ (x.3 ++ 0x0B ∷ [])) in
      let is : front ++ x.4 ≡ 0x04 ∷ block_byte r ∷ text = ap (λ l. 0x04 ∷ block_byte r ∷ l) (append_assoc x.2 (0x05 ∷ (x.3 ++ 0x0B ∷ [])) x.4 ∙ ap (λ l. x.2 ++ 0x05 ∷ l) (append_assoc x.3 (0x0B ∷ []) x.4) ∙ sym x.5) in
      subst (Completes c os list) is
      (grow c os list (IfElse r x.0 x.1) front x.4 (front_lists r x.0 x.1 (most_nested - length os) x.2 x.3 (omega arith) (deeper o x.0 x.2 x.6) (deeper o x.1 x.3 x.7)) x.8)

  around : (k : Kind) (text : List ℕ) → Completes c (record { what = First k r; before = list } ∷ os) (λ rest. rest) text
      → Completes c os list (kind_byte k ∷ block_byte r ∷ text)
  around kind.Block text x = around_end kind.Block text x
  around kind.Loop text x = around_end kind.Loop text x
  around kind.If text (inl x) = around_end kind.If text x
  around kind.If text (inr x) = around_else text x

allowed : {A : Type 0} (t : Bool) (x : Result A Fault) (e : Fault) (y : A) → cond t x (Err e) ≡ Ok y → (t ≡ true) × (x ≡ Ok y)
allowed true x e y h = (refl, h)
allowed false x e y h = absurd cc

module _ (b : List ℕ) (fits : IsBytes b) (c : Code) (next : ℕ) where
  abbrev Found : ℕ → List Open → (Code → Code) → Type 0
  Found at os list = (text : List ℕ) × Here b at text next × Completes c os list text

  abbrev Finds : (ℕ → List Open → (Code → Code) → Read Code) → Type 0
  Finds go = (at : ℕ) (os : List Open) (list : Code → Code) → length os ≤ most_nested → go at os list ≡ Ok (c, next) → Found at os list

  module _ (go : ℕ → List Open → (Code → Code) → Read Code) (finds : Finds go) (at n : ℕ) where
    found_else : (os : List Open) (list : Code → Code) → length os ≤ most_nested → Here b at (0x05 ∷ []) n → after_else (go n) at os list ≡ Ok (c, next) → Found at os list
    found_else [] list le h e = absurd cc
    found_else (o ∷ os) list le h e = by_part o.what e
      where
        by_part : (what : Part) → after_else (go n) at (record { what = what; before = o.before } ∷ os) list ≡ Ok (c, next)
            → Found at (record { what = what; before = o.before } ∷ os) list
        by_part (First kind.Block r) e = absurd cc
        by_part (First kind.Loop r) e = absurd cc
        by_part (Second r d) e = absurd cc
        by_part (First kind.If r) e =
            let x = finds n (record { what = Second r (list Nil); before = o.before } ∷ os) (λ rest. rest) le e in
            let y = x.2 in
            (0x05 ∷ x.0, here_join b at n next (0x05 ∷ []) x.0 h x.1, inr (Nil, y.0, [], y.1, y.2, ap (λ l. 0x05 ∷ l) y.3, refl, y.4, y.5))

    found_open : (k : Kind) (os : List Open) (list : Code → Code) → Here b at (kind_byte k ∷ []) n
        → cond (nat_lt (length os) most_nested) (block_type_at b n >>= λ r. go r.1 (record { what = First k r.0; before = list } ∷ os) (λ rest. rest)) (Err (Limit at)) ≡ Ok (c, next)
        → Found at os list
    found_open k os list h e =
        let a = allowed (nat_lt (length os) most_nested) (block_type_at b n >>= λ r. go r.1 (record { what = First k r.0; before = list } ∷ os) (λ rest. rest)) (Limit at) (c, next) e in
        let lt : length os < most_nested = ltb-true (length os) most_nested a.0 in
        let x = bind_ok (block_type_at b n) (λ r. go r.1 (record { what = First k r.0; before = list } ∷ os) (λ rest. rest)) (c, next) a.1 in
        let r = x.0.0 in
        let h2 = block_here b n x.0.1 r x.1 in
        let y = finds x.0.1 (record { what = First k r; before = list } ∷ os) (λ rest. rest) (omega arith) x.2 in
        (kind_byte k ∷ block_byte r ∷ y.0, here_join b at n next (kind_byte k ∷ []) (block_byte r ∷ y.0) h (here_join b n x.0.1 next (block_byte r ∷ []) y.0 h2 y.1), around c os list r lt k y.0 y.2)

    found_token : (t : Token) (os : List Open) (list : Code → Code) → length os ≤ most_nested → Spelled b at n t → act go b at os list t n ≡ Ok (c, next) → Found at os list
    found_token (Plain i) os list le s e =
        let x = finds n os (λ rest. list (Leaf i rest)) le e in
        (s.0 ++ x.0, here_join b at n next s.0 x.0 s.1 x.1, grow c os list (Leaf i) s.0 x.0 (λ d u su. (s.0, u, refl, s.2, su)) x.2)
    found_token (Opens k) os list le s e = found_open k os list s e
    found_token Else os list le s e = found_else os list le s e
    found_token End [] list le s e =
        let same = ok_is (list Nil, n) (c, next) e in
        (0x0B ∷ [], subst (Here b at (0x0B ∷ [])) (ap (λ (p : Code × ℕ). p.1) same) s, (Nil, [], refl, refl, sym (ap (λ (p : Code × ℕ). p.0) same)))
    found_token End (o ∷ os) list le s e =
        let x = finds n os (λ rest. o.before (made o.what (list Nil) rest)) (omega arith) e in
        (0x0B ∷ x.0, here_join b at n next (0x0B ∷ []) x.0 s x.1, ends_now (most_nested - length (o ∷ os)) o.what o.before (Completes c os) list x.0 x.2)

  found_from : (fuel : ℕ) → Finds (code_from fuel b)
  unfolding code_from
  found_from zero at os list le e = absurd cc
  found_from (suc fuel) at os list le e =
      let x = bind_ok (token_at b at) (λ token. act (code_from fuel b) b at os list token.0 token.1) (c, next) e in
      found_token (code_from fuel b) (found_from fuel) at x.0.1 x.0.0 os list le (token_here b fits at x.0.1 x.0.0 x.1) x.2

  -- what is read is spelled so
  pub code_here : (at : ℕ) → code_at b at ≡ Ok (c, next) → (text : List ℕ) × Here b at text next × SpellsExpr c text
  code_here at e =
      let x = found_from (length b) at [] (λ rest. rest) (omega arith) e in
      let y = x.2 in
      (x.0, x.1, (y.1, y.2, subst (λ d. SpellsCode 1024 d y.1) (sym y.4) y.3))

-- Nested code: what is spelled is read, and what is read is spelled.
use Rattle.std.proofs.Common.{◌≡◌, ℕ, zero, suc, ◌+◌, ◌-◌, ◌<◌, ◌≤◌, cond, List, [], ◌∷◌, ◌++◌, length, Option, Ok, Err, refl, ap, subst, ◌∙◌, arith}
use Rattle.std.proofs.lemmas.Bool.{lt-ltb}
use Rattle.wasm_types.specs.declared.instr.ValType.{ValType}
use Rattle.wasm_types.specs.declared.instr.Instr.{Instr}
use Rattle.wasm_types.specs.Nested.{Code, Nil, Leaf, InBlock, InLoop, IfOnly, IfElse}
use Rattle.module_specs.specs.declared.fault.Fault.TheVariants.{Limit}
use Rattle.module_specs.specs.declared.opcodes.Kind.{Kind}
use Rattle.module_specs.specs.declared.opcodes.Kind.TheVariants as kind
use Rattle.module_specs.specs.declared.token.Token.{Token}
use Rattle.module_specs.specs.declared.token.Token.TheVariants.{Plain, Opens, Else, End}
use Rattle.wasm_code.proofs.Tokens.{instr_again, opens_again, else_again, end_again}
use Rattle.module_specs.specs.Reading.{Read, ◌>>=◌, block_type_at}
use Rattle.module_specs.specs.CodeReading.{First, Second, made, Open, token_at, act, code_from, code_at}
use Rattle.module_specs.specs.CodeSpelling.{most_nested, SpellsInstr, SpellsCode, SpellsExpr}
use Rattle.module_specs.specs.Spelling.{Here, block_byte}
use Rattle.module_specs.proofs.Places.{here_first, here_second, same_text, byte_rest}
use Rattle.module_specs.specs.Opcodes.{kind_byte}
use Rattle.module_specs.proofs.ValueTypes.{block_again}

-- one list behind another
abbrev pub append : Code → Code → Code
append Nil d = d
append (Leaf i rest) d = Leaf i (append rest d)
append (InBlock r inner rest) d = InBlock r inner (append rest d)
append (InLoop r inner rest) d = InLoop r inner (append rest d)
append (IfOnly r one rest) d = IfOnly r one (append rest d)
append (IfElse r one two rest) d = IfElse r one two (append rest d)

append_nil : (c : Code) → append c Nil ≡ c
append_nil Nil = refl
append_nil (Leaf i rest) = ap (Leaf i) (append_nil rest)
append_nil (InBlock r inner rest) = ap (InBlock r inner) (append_nil rest)
append_nil (InLoop r inner rest) = ap (InLoop r inner) (append_nil rest)
append_nil (IfOnly r one rest) = ap (IfOnly r one) (append_nil rest)
append_nil (IfElse r one two rest) = ap (IfElse r one two) (append_nil rest)

module _ (b : List ℕ) where
  -- Reading from here comes to reading on from there, with enough bytes left to count.
  pub record Leads (fuel at : ℕ) (os : List Open) (list : Code → Code) (next : ℕ) (os' : List Open) (list' : Code → Code) : Type 0 where
    pub left : ℕ
    pub enough : length b ≤ left + next
    pub is : code_from fuel b at os list ≡ code_from left b next os' list'

  leads_nowhere : (fuel at next : ℕ) (os : List Open) (list : Code → Code) → at ≡ next → length b ≤ fuel + at → Leads fuel at os list next os list
  leads_nowhere fuel at next os list e enough = record { left = fuel; enough = omega arith; is = ap (λ n. code_from fuel b n os list) e }

  leads_then : (fuel at mid next : ℕ) (os1 os2 os3 : List Open) (l1 l2 l3 : Code → Code) → Leads fuel at os1 l1 mid os2 l2
      → ((left : ℕ) → length b ≤ left + mid → Leads left mid os2 l2 next os3 l3) → Leads fuel at os1 l1 next os3 l3
  leads_then fuel at mid next os1 os2 os3 l1 l2 l3 x f =
      let y = f x.left x.enough in
      record { left = y.left; enough = y.enough; is = x.is ∙ y.is }

  -- one token
  record Acts (fuel at : ℕ) (os : List Open) (list : Code → Code) (t : Token) (next : ℕ) : Type 0 where
    pub left : ℕ
    pub enough : length b ≤ left + next
    pub is : code_from fuel b at os list ≡ act (code_from left b) b at os list t next

  acts : (fuel at : ℕ) (os : List Open) (list : Code → Code) (t : Token) (next : ℕ) → at < length b → at < next → length b ≤ fuel + at → token_at b at ≡ Ok (t, next)
      → Acts fuel at os list t next
  unfolding code_from
  acts zero at os list t next lt more enough e = absurd (omega arith)
  acts (suc left) at os list t next lt more enough e = record {
    left = left;
    enough = omega arith;
    is = ap (λ r. r >>= λ token. act (code_from left b) b at os list token.0 token.1) e;
  }

  not_at_end : (at next : ℕ) (x : ℕ) (text : List ℕ) → Here b at (x ∷ text) next → at < length b
  not_at_end at next x text h = omega (arith, h.size, h.within)

  leaf_leads : (fuel at next : ℕ) (os : List Open) (list : Code → Code) (i : Instr) (text : List ℕ) → length b ≤ fuel + at → SpellsInstr i text → Here b at text next
      → Leads fuel at os list next os (λ rest. list (Leaf i rest))
  leaf_leads fuel at next os list i [] enough s h = absurd s
  leaf_leads fuel at next os list i (op ∷ text) enough s h =
      let a = acts fuel at os list (Plain i) next (not_at_end at next op text h) (omega (arith, h.size)) enough (instr_again b at next i (op ∷ text) s h) in
      record { left = a.left; enough = a.enough; is = a.is }

  opens_leads : (fuel at next : ℕ) (os : List Open) (list : Code → Code) (k : Kind) (r : Option ValType) (text : List ℕ) → length os < most_nested → length b ≤ fuel + at
      → Here b at (kind_byte k ∷ block_byte r ∷ text) next
      → Leads fuel at os list (at + 2) (record { what = First k r; before = list } ∷ os) (λ rest. rest)
  opens_leads fuel at next os list k r text lt enough h =
      let a = acts fuel at os list (Opens k) (at + 1) (not_at_end at next (kind_byte k) (block_byte r ∷ text) h) (omega arith) enough (opens_again b at next k (block_byte r ∷ text) h) in
      let go : ℕ → List Open → (Code → Code) → Read Code = code_from a.left b in
      let n : at + 1 + 1 ≡ at + 2 = omega arith in
      record {
        left = a.left;
        enough = omega (arith, a.enough);
        is = a.is
            ∙ ap (λ t. cond t (block_type_at b (at + 1) >>= λ r. go r.1 (record { what = First k r.0; before = list } ∷ os) (λ rest. rest)) (Err (Limit at))) (lt-ltb (length os) most_nested lt)
            ∙ ap (λ x. x >>= λ r. go r.1 (record { what = First k r.0; before = list } ∷ os) (λ rest. rest)) (block_again b (at + 1) next r text (byte_rest b at next (kind_byte k) (block_byte r ∷ text) h))
            ∙ ap (λ n. go n (record { what = First k r; before = list } ∷ os) (λ rest. rest)) n;
      }

  ends_leads : (fuel at next : ℕ) (o : Open) (os : List Open) (list : Code → Code) (text : List ℕ) → length b ≤ fuel + at → Here b at (0x0B ∷ text) next
      → Leads fuel at (o ∷ os) list (at + 1) os (λ rest. o.before (made o.what (list Nil) rest))
  ends_leads fuel at next o os list text enough h =
      let a = acts fuel at (o ∷ os) list End (at + 1) (not_at_end at next 0x0B text h) (omega arith) enough (end_again b at next text h) in
      record { left = a.left; enough = a.enough; is = a.is }

  turns_leads : (fuel at next : ℕ) (r : Option ValType) (before : Code → Code) (os : List Open) (list : Code → Code) (text : List ℕ) → length b ≤ fuel + at → Here b at (0x05 ∷ text) next
      → Leads fuel at (record { what = First kind.If r; before = before } ∷ os) list (at + 1) (record { what = Second r (list Nil); before = before } ∷ os) (λ rest. rest)
  turns_leads fuel at next r before os list text enough h =
      let a = acts fuel at (record { what = First kind.If r; before = before } ∷ os) list Else (at + 1) (not_at_end at next 0x05 text h) (omega arith) enough (else_again b at next text h) in
      record { left = a.left; enough = a.enough; is = a.is }

  abbrev Reads : ℕ → Code → Type 0
  Reads room c = (text : List ℕ) (fuel at next : ℕ) (os : List Open) (list : Code → Code) → room + length os ≡ most_nested → length b ≤ fuel + at
      → SpellsCode room c text → Here b at text next → Leads fuel at os list next os (λ rest. list (append c rest))

  -- a list with an end, of a block, a loop or an if
  one_list : (k : Kind) (r : Option ValType) (inner rest : Code) (room : ℕ) → Reads (room - 1) inner → Reads room rest
      → (one two : List ℕ) (fuel at next : ℕ) (os : List Open) (list : Code → Code) → 0 < room → room + length os ≡ most_nested → length b ≤ fuel + at
      → SpellsCode (room - 1) inner one → SpellsCode room rest two → Here b at (kind_byte k ∷ block_byte r ∷ (one ++ 0x0B ∷ two)) next
      → Leads fuel at os list next os (λ d. list (made (First k r) inner (append rest d)))
  one_list k r inner rest room reads_inner reads_rest one two fuel at next os list some same enough s1 s2 h =
      let o : Open = record { what = First k r; before = list } in
      let h1 = byte_rest b (at + 1) next (block_byte r) (one ++ 0x0B ∷ two) (byte_rest b at next (kind_byte k) (block_byte r ∷ (one ++ 0x0B ∷ two)) h) in
      let n : at + 1 + 1 ≡ at + 2 = omega arith in
      let h2 = subst (λ n. Here b n (one ++ 0x0B ∷ two) next) n h1 in
      let h3 = here_first b (at + 2) next one (0x0B ∷ two) h2 in
      let h4 = here_second b (at + 2) next one (0x0B ∷ two) h2 in
      let p = at + 2 + length one in
      let whole = append_nil inner in
      leads_then fuel at (at + 2) next os (o ∷ os) os list (λ d. d) (λ d. list (made (First k r) inner (append rest d)))
      (opens_leads fuel at next os list k r (one ++ 0x0B ∷ two) (omega arith) enough h)
      (λ left enough. leads_then left (at + 2) p next (o ∷ os) (o ∷ os) os (λ d. d) (λ d. append inner d) (λ d. list (made (First k r) inner (append rest d)))
      (reads_inner one left (at + 2) p (o ∷ os) (λ d. d) (omega arith) enough s1 h3)
      (λ left enough. leads_then left p (p + 1) next (o ∷ os) os os (λ d. append inner d) (λ d. list (made (First k r) inner d)) (λ d. list (made (First k r) inner (append rest d)))
      (subst (λ c. Leads left p (o ∷ os) (λ d. append inner d) (p + 1) os (λ d. list (made (First k r) c d))) whole (ends_leads left p next o os (λ d. append inner d) two enough h4))
      (λ left enough. reads_rest two left (p + 1) next os (λ d. list (made (First k r) inner d)) same enough s2 (byte_rest b p next 0x0B two h4))))

  two_lists : (r : Option ValType) (first second rest : Code) (room : ℕ) → Reads (room - 1) first → Reads (room - 1) second → Reads room rest
      → (one two three : List ℕ) (fuel at next : ℕ) (os : List Open) (list : Code → Code) → 0 < room → room + length os ≡ most_nested → length b ≤ fuel + at
      → SpellsCode (room - 1) first one → SpellsCode (room - 1) second two → SpellsCode room rest three
      → Here b at (0x04 ∷ block_byte r ∷ (one ++ 0x05 ∷ (two ++ 0x0B ∷ three))) next
      → Leads fuel at os list next os (λ d. list (IfElse r first second (append rest d)))
  two_lists r first second rest room reads_first reads_second reads_rest one two three fuel at next os list some same enough s1 s2 s3 h =
      let o : Open = record { what = First kind.If r; before = list } in
      let q : Open = record { what = Second r first; before = list } in
      let tail = two ++ 0x0B ∷ three in
      let h1 = byte_rest b (at + 1) next (block_byte r) (one ++ 0x05 ∷ tail) (byte_rest b at next 0x04 (block_byte r ∷ (one ++ 0x05 ∷ tail)) h) in
      let n : at + 1 + 1 ≡ at + 2 = omega arith in
      let h2 = subst (λ n. Here b n (one ++ 0x05 ∷ tail) next) n h1 in
      let h3 = here_first b (at + 2) next one (0x05 ∷ tail) h2 in
      let h4 = here_second b (at + 2) next one (0x05 ∷ tail) h2 in
      let p = at + 2 + length one in
      let h5 = byte_rest b p next 0x05 tail h4 in
      let h6 = here_first b (p + 1) next two (0x0B ∷ three) h5 in
      let h7 = here_second b (p + 1) next two (0x0B ∷ three) h5 in
      let e = p + 1 + length two in
      let final : Code → Code = λ d. list (IfElse r first second (append rest d)) in
      leads_then fuel at (at + 2) next os (o ∷ os) os list (λ d. d) final
      (opens_leads fuel at next os list kind.If r (one ++ 0x05 ∷ tail) (omega arith) enough h)
      (λ left enough. leads_then left (at + 2) p next (o ∷ os) (o ∷ os) os (λ d. d) (λ d. append first d) final
      (reads_first one left (at + 2) p (o ∷ os) (λ d. d) (omega arith) enough s1 h3)
      (λ left enough. leads_then left p (p + 1) next (o ∷ os) (q ∷ os) os (λ d. append first d) (λ d. d) final
      (subst (λ c. Leads left p (o ∷ os) (λ d. append first d) (p + 1) (record { what = Second r c; before = list } ∷ os) (λ d. d)) (append_nil first) (turns_leads left p next r list os (λ d. append first d) tail enough h4))
      (λ left enough. leads_then left (p + 1) e next (q ∷ os) (q ∷ os) os (λ d. d) (λ d. append second d) final
      (reads_second two left (p + 1) e (q ∷ os) (λ d. d) (omega arith) enough s2 h6)
      (λ left enough. leads_then left e (e + 1) next (q ∷ os) os os (λ d. append second d) (λ d. list (IfElse r first second d)) final
      (subst (λ c. Leads left e (q ∷ os) (λ d. append second d) (e + 1) os (λ d. list (IfElse r first c d))) (append_nil second) (ends_leads left e next q os (λ d. append second d) three enough h7))
      (λ left enough. reads_rest three left (e + 1) next os (λ d. list (IfElse r first second d)) same enough s3 (byte_rest b e next 0x0B three h7))))))

  reads : (c : Code) (room : ℕ) → Reads room c
  reads Nil room text fuel at next os list same enough s h = leads_nowhere fuel at next os list (omega (arith, h.size, ap length s)) enough
  reads (Leaf i rest) room text fuel at next os list same enough s h =
      let k = same_text b at next text (s.0 ++ s.1) s.2 h in
      let mid = at + length s.0 in
      leads_then fuel at mid next os os os list (λ d. list (Leaf i d)) (λ d. list (Leaf i (append rest d)))
      (leaf_leads fuel at mid os list i s.0 enough s.3 (here_first b at next s.0 s.1 k))
      (λ left enough. reads rest room s.1 left mid next os (λ d. list (Leaf i d)) same enough s.4 (here_second b at next s.0 s.1 k))
  reads (InBlock r inner rest) room text fuel at next os list same enough s h =
      one_list kind.Block r inner rest room (reads inner (room - 1)) (reads rest room) s.0 s.1 fuel at next os list s.3 same enough s.4 s.5 (same_text b at next text _ s.2 h)
  reads (InLoop r inner rest) room text fuel at next os list same enough s h =
      one_list kind.Loop r inner rest room (reads inner (room - 1)) (reads rest room) s.0 s.1 fuel at next os list s.3 same enough s.4 s.5 (same_text b at next text _ s.2 h)
  reads (IfOnly r inner rest) room text fuel at next os list same enough s h =
      one_list kind.If r inner rest room (reads inner (room - 1)) (reads rest room) s.0 s.1 fuel at next os list s.3 same enough s.4 s.5 (same_text b at next text _ s.2 h)
  reads (IfElse r first second rest) room text fuel at next os list same enough s h =
      two_lists r first second rest room (reads first (room - 1)) (reads second (room - 1)) (reads rest room) s.0 s.1 s.2 fuel at next os list s.4 same enough s.5 s.6 s.7 (same_text b at next text _ s.3 h)

  -- what is spelled is read
  pub code_again : (c : Code) (text : List ℕ) (at next : ℕ) → SpellsExpr c text → Here b at text next → code_at b at ≡ Ok (c, next)
  code_again c text at next s h =
      let k = same_text b at next text (s.0 ++ 0x0B ∷ []) s.1 h in
      let mid = at + length s.0 in
      let last = here_second b at next s.0 (0x0B ∷ []) k in
      let x = reads c 1024 s.0 (length b) at mid [] (λ d. d) refl (omega arith) s.2 (here_first b at next s.0 (0x0B ∷ []) k) in
      let a = acts x.left mid [] (λ d. append c d) End (mid + 1) (not_at_end mid next 0x0B [] last) (omega arith) x.enough (end_again b mid next [] last) in
      let n : mid + 1 ≡ next = omega (arith, last.size) in
      x.is ∙ a.is ∙ ap (λ c. Ok (c, mid + 1)) (append_nil c) ∙ ap (λ n. Ok (c, n)) n

-- Where branches and returns lead.
use Rattle.std.proofs.Common.{◌≡◌, ◌≢◌, ℕ, zero, suc, ◌+◌, ◌-◌, ◌<◌, ◌≤◌, List, [], ◌∷◌, ◌++◌, length, Option, Some, None, refl, sym, ap, ◌∙◌, subst, ⊎_elim, arith, append_assoc, drop, false}
use Rattle.std.specs.Prelude.{slice_get, reverse, nat_lt, cond}
use Rattle.std.proofs.lemmas.Bool.{cases_lt, lt-ltb, le-ltb}
use Rattle.std.proofs.lemmas.List.{drop-append-le, drop_at, map-append, length-reverse}
use Rattle.wasm_types.specs.declared.instr.ValType.{ValType}
use Rattle.wasm_types.specs.declared.instr.Instr.{Instr}
use Rattle.wasm_types.specs.declared.module.FuncType.{FuncType}
use Rattle.wasm_types.specs.declared.module.Func.{Func}
use Rattle.wasm_types.specs.declared.module.Module.{Module}
use Rattle.wasm_types.specs.Nested.{Code}
use Rattle.wasm_types.specs.Stands.{Stands}
use Rattle.wasm_types.specs.Modules.{NestedModule}
use Rattle.code_specs.specs.Values.{Value, Split, bits_of, all_bits, split, split_first}
use Rattle.code_specs.specs.Stores.{Store}
use Rattle.code_specs.specs.Signatures.{types_of}
use Rattle.code_specs.specs.Execution.{Answer, Returned, Stuck, Branch, Invoke, on_found, after_block, exec, answer_with, answer_after, invoke}
use Rattle.code_laws.proofs.Spending.{exec_spends, invoke_spends, loop_again}
use Rattle.machine_steps.specs.declared.frame.Label.{Label}
use Rattle.machine_steps.specs.declared.frame.Frame.{Frame}
use Rattle.machine_steps.specs.Steps.{Go, cut, where_found, where_split, back, returning, most_callers, closed_by, landing, branching}
use Rattle.machine_steps.specs.Nesting.{Nests}
use Rattle.machine_steps.specs.Answers.{bits_of_answer}
use Rattle.machine_steps.proofs.Lists.{get_front, cut_at}
use Rattle.machine_steps.proofs.Splits.{taken}
use Rattle.machine_steps.proofs.States.{OpenList, OpenBlock, OpenLoop, before_of, innermost, under, held, low, LabelFits, LabelsFit, Around, Waiting, CallersFit, leave, leave_all, resume, answer, Keeps, last_resume, stuck_ends, low_cons, low_length}

-- a branch comes to one of the open lists
record Landing (b : List Instr) (fin h : ℕ) (ks : List OpenList) (n : ℕ) (mine : List Label) : Type 0 where
  k : OpenList
  outer : List OpenList
  label : Label
  labels : List Label
  skipped : List Value
  at : slice_get mine n ≡ Some label
  rest : drop n mine ≡ label ∷ labels
  rest_behind : drop (suc n) mine ≡ labels
  count : length mine ≡ n + suc (length labels)
  fits : LabelFits b fin h k outer label × LabelsFit b fin h outer labels
  under_is : under ks ≡ skipped ++ under (k ∷ outer)
  same : (m : NestedModule) (call : Invoke) (w : ℕ) (l vs : List Value) (s : Store) (f : ℕ) → leave_all m call w ks (Branch n l vs s f) ≡ leave_all m call w (k ∷ outer) (Branch 0 l vs s f)

leave_branch : (m : NestedModule) (call : Invoke) (h : ℕ) (k : OpenList) (n : ℕ) (l vs : List Value) (s : Store) (f : ℕ) → leave m call h k (Branch (suc n) l vs s f) ≡ Branch n l vs s f
leave_branch m call h (OpenBlock r closer before rest) n l vs s f = refl
leave_branch m call h (OpenLoop closer inner before rest) n l vs s f = refl

lands : (b : List Instr) (fin h : ℕ) (ks : List OpenList) (n : ℕ) (mine : List Label) → LabelsFit b fin h ks mine → n < length mine → Landing b fin h ks n mine
lands b fin h [] n [] fit lt = absurd (omega arith)
lands b fin h [] n (l ∷ mine) fit lt = absurd fit
lands b fin h (k ∷ ks) n [] fit lt = absurd fit
lands b fin h (k ∷ ks) zero (l ∷ mine) fit lt =
    record { k = k; outer = ks; label = l; labels = mine; skipped = []; at = refl; rest = refl; rest_behind = refl; count = omega arith; fits = fit; under_is = refl; same = λ m call w l vs s f. refl }
lands b fin h (k ∷ ks) (suc n) (l ∷ mine) fit lt =
    let r = lands b fin h ks n mine fit.1 (omega arith) in
    record {
      k = r.k;
      outer = r.outer;
      label = r.label;
      labels = r.labels;
      skipped = before_of k ++ r.skipped;
      at = r.at;
      rest = r.rest;
      rest_behind = r.rest_behind;
      count = omega (arith, r.count);
      fits = r.fits;
      under_is = ap (λ u. before_of k ++ u) r.under_is ∙ sym (append_assoc (before_of k) r.skipped (under (r.k ∷ r.outer)));
      same = λ m call w l vs s f. ap (leave_all m call w ks) (leave_branch m call (held w ks) k n l vs s f) ∙ r.same m call w l vs s f;
    }

-- a branch past each open list leaves the function
passes : (m : NestedModule) (call : Invoke) (w : ℕ) (b : List Instr) (fin h : ℕ) (ks : List OpenList) (n : ℕ) (mine : List Label) (l vs : List Value) (s : Store) (f : ℕ) → LabelsFit b fin h ks mine → length mine ≤ n → leave_all m call w ks (Branch n l vs s f) ≡ Branch (n - length mine) l vs s f
passes m call w b fin h [] n [] l vs s f fit le = ap (λ k. Branch k l vs s f) (let e : n ≡ n - 0 = omega arith in e)
passes m call w b fin h [] n (x ∷ mine) l vs s f fit le = absurd fit
passes m call w b fin h (k ∷ ks) n [] l vs s f fit le = absurd fit
passes m call w b fin h (k ∷ ks) zero (x ∷ mine) l vs s f fit le = absurd (omega arith)
passes m call w b fin h (k ∷ ks) (suc n) (x ∷ mine) l vs s f fit le =
    let e : n - length mine ≡ suc n - length (x ∷ mine) = omega arith in
    ap (leave_all m call w ks) (leave_branch m call (held w ks) k n l vs s f)
    ∙ passes m call w b fin h ks n mine l vs s f fit.1 (omega arith)
    ∙ ap (λ k. Branch k l vs s f) e

-- a function returns
return_to : (m : NestedModule) (fm : Module) (top rest : List Value) (base depth : ℕ) (gap below : List ℕ) (mine labels_below : List Label) (cs : List Waiting) (callers : List Frame) (d : ℕ) (s : Store) (f : ℕ) (r : Answer Value)
    → base ≡ length below → depth ≡ length mine → CallersFit fm cs callers labels_below below → d + length callers ≡ most_callers → resume m d cs (Returned top s f) ≡ r
    → Keeps m fm (back base depth (all_bits top) (all_bits rest ++ (gap ++ below)) (mine ++ labels_below) callers s f) r
return_to m fm top rest base depth gap below mine labels_below [] [] d s f r eb ed fit room e = ap bits_of_answer e
return_to m fm top rest base depth gap below mine labels_below [] (fr ∷ callers) d s f r eb ed fit room e = absurd fit
return_to m fm top rest base depth gap below mine labels_below (c ∷ cs) [] d s f r eb ed fit room e = absurd fit
return_to m fm top rest base depth gap below mine labels_below (c ∷ cs) (fr ∷ callers) d s f r eb ed fit room e =
    let fr' = fit.2 in
    let low' = low c.ks c.locals fit.1 in
    let cut_is = ap (cut base) (sym (append_assoc (all_bits rest) gap below)) ∙ cut_at (all_bits rest ++ gap) below base eb in
    let values_are = ap (λ s. all_bits top ++ s) (cut_is ∙ fr'.values_are) ∙ sym (append_assoc (all_bits top) (all_bits c.operands) low') ∙ ap (λ s. s ++ low') (sym (map-append bits_of top c.operands)) in
    let labels_are = drop_at mine labels_below depth (sym ed) ∙ fr'.around.labels_are in
    let a = fr'.around in
    record {
      code = c.rest;
      locals = c.locals;
      operands = top ++ c.operands;
      ks = c.ks;
      results = c.results;
      labels_below = fit.0;
      below = fit.1;
      cs = cs;
      d = suc d;
      frame = record {
        around = record { f = a.f; has = a.has; ty = a.ty; typed = a.typed; results_are = a.results_are; fin = a.fin; mine = a.mine; fits = a.fits; labels_are = labels_are; depth_is = a.depth_is; base_is = a.base_is };
        stands = fr'.stands;
        nests = fr'.nests;
        values_are = values_are;
      };
      callers_fit = fit.4;
      room = omega arith;
      answer_is = e;
    }

-- within one frame
module _ (m : NestedModule) (fm : Module) (func base depth : ℕ) (locals : List Value) (ks : List OpenList) (results : List ValType) (labels labels_below : List Label) (below : List ℕ) (cs : List Waiting) (callers : List Frame) (d : ℕ) (r : Answer Value)
    (around : Around fm func base depth (length locals) ks results labels labels_below below) (callers_fit : CallersFit fm cs callers labels_below below) (room : d + length callers ≡ most_callers) (ok : r ≢ Stuck) where
  return_split : (o : Option (Split Value)) (vs : List Value) (gap : List ℕ) (s : Store) (f : ℕ) → split results vs ≡ o → resume m d cs (answer_with o s f) ≡ r
      → Keeps m fm (returning fm func base depth (all_bits vs ++ (gap ++ below)) labels callers s f) r
  return_split None vs gap s f is e = absurd (ok (sym e ∙ last_resume m d cs Stuck tt))
  return_split (Some p) vs gap s f is e =
      let t = taken results vs p is in
      let values = all_bits vs ++ (gap ++ below) in
      let count : length around.ty.results ≡ length results = sym (length-reverse around.ty.results) ∙ ap length around.results_are in
      let first : split_first (length around.ty.results) values ≡ Some (record { top = all_bits p.top; below = all_bits p.below ++ (gap ++ below) }) = ap (λ n. split_first n values) count ∙ t.over (gap ++ below) in
      let go = λ (g : Func) (t : FuncType). where_split (split_first (length t.results) values) (λ top low. back base depth top low labels callers s f) in
      let step : returning fm func base depth values labels callers s f ≡ back base depth (all_bits p.top) (all_bits p.below ++ (gap ++ below)) (around.mine ++ labels_below) callers s f =
      ap (λ o. where_found o (λ (g : Func). where_found (slice_get fm.types g.ty) (λ t. go g t))) around.has
      ∙ ap (λ o. where_found o (λ t. go around.f t)) around.typed
      ∙ ap (λ o. where_split o (λ top low. back base depth top low labels callers s f)) first
      ∙ ap (λ ls. back base depth (all_bits p.top) (all_bits p.below ++ (gap ++ below)) ls callers s f) around.labels_are in
      subst (λ st. Keeps m fm st r) (sym step) (return_to m fm p.top p.below base depth gap below around.mine labels_below cs callers d s f r around.base_is around.depth_is callers_fit room e)

  pub leaves : (vs : List Value) (s : Store) (f : ℕ) → resume m d cs (answer_with (split results vs) s f) ≡ r
      → Keeps m fm (returning fm func base depth (all_bits vs ++ low ks locals below) labels callers s f) r
  leaves vs s f e =
      subst (λ l. Keeps m fm (returning fm func base depth (all_bits vs ++ l) labels callers s f) r) (append_assoc (all_bits (under ks)) (reverse (all_bits locals)) below)
      (return_split (split results vs) vs (all_bits (under ks) ++ reverse (all_bits locals)) s f refl e)

  -- the machine goes on in this frame
  pub goes : (code : Code) (position : ℕ) (vs : List Value) (s : Store) (f : ℕ) → Stands around.f.body code position (innermost ks around.fin) → Nests (length ks) code
      → answer m d cs results (length locals) ks (exec m (invoke m d) (held (length locals) ks) code locals vs s f) ≡ r
      → Keeps m fm (Go func position base depth (all_bits vs ++ low ks locals below) labels callers s f) r
  goes code position vs s f stands nests e = record {
    code = code;
    locals = locals;
    operands = vs;
    ks = ks;
    results = results;
    labels_below = labels_below;
    below = below;
    cs = cs;
    d = d;
    frame = record { around = around; stands = stands; nests = nests; values_are = refl };
    callers_fit = callers_fit;
    room = room;
    answer_is = e;
  }

-- a branch that comes to an open list
module _ (m : NestedModule) (fm : Module) (func base depth : ℕ) (locals : List Value) (ks : List OpenList) (results : List ValType) (labels labels_below : List Label) (below : List ℕ) (cs : List Waiting) (callers : List Frame) (d : ℕ) (r : Answer Value)
    (around : Around fm func base depth (length locals) ks results labels labels_below below) (callers_fit : CallersFit fm cs callers labels_below below) (room : d + length callers ≡ most_callers) (ok : r ≢ Stuck) where
  -- the frame with these lists alone
  abbrev inside : (n : ℕ) (outer : List OpenList) (mine : List Label) → LabelsFit around.f.body around.fin (base + length locals) outer mine → drop n around.mine ≡ mine → length around.mine ≡ n + length mine
      → Around fm func base (depth - n) (length locals) outer results (drop n labels) labels_below below
  inside n outer mine fits rest count =
      let le : n ≤ length around.mine = omega (arith, count) in
      record {
        f = around.f;
        has = around.has;
        ty = around.ty;
        typed = around.typed;
        results_are = around.results_are;
        fin = around.fin;
        mine = mine;
        fits = fits;
        labels_are = ap (drop n) around.labels_are ∙ drop-append-le n around.mine labels_below le ∙ ap (λ ls. ls ++ labels_below) rest;
        depth_is = omega (arith, around.depth_is, count);
        base_is = around.base_is;
      }

  land : (n : ℕ) (k : OpenList) (outer : List OpenList) (l : Label) (mine : List Label) (gap : List ℕ) (vs : List Value) (s : Store) (f : ℕ) (o : Option (Split Value)) → split (types_of l.carries) vs ≡ o
      → LabelFits around.f.body around.fin (base + length locals) k outer l → LabelsFit around.f.body around.fin (base + length locals) outer mine
      → drop n around.mine ≡ l ∷ mine → drop (suc n) around.mine ≡ mine → length around.mine ≡ n + suc (length mine)
      → answer m d cs results (length locals) (k ∷ outer) (Branch 0 locals vs s f) ≡ r
      → Keeps m fm (where_split (split_first (length (types_of l.carries)) (all_bits vs ++ (gap ++ low (k ∷ outer) locals below))) (λ top low. landing l n func base depth top low labels callers s f)) r
  land n (OpenBlock res closer before rest) outer l mine gap vs s f None is one fits at behind count e =
      let w = length locals in
      let go = λ (o : Option (Split Value)). answer m d cs results w outer (on_found o (λ p. exec m (invoke m d) (held w outer) rest locals (p.top ++ before) s f)) in
      let none = ap (λ (t : Option ValType). split (types_of t) vs) (sym one.leads.0) ∙ is in
      absurd (stuck_ends m d cs results w outer r (ap go (sym none) ∙ e) ok)
  land n (OpenBlock res closer before rest) outer l mine gap vs s f (Some p) is one fits at behind count e =
      let w = length locals in
      let low' = low (OpenBlock res closer before rest ∷ outer) locals below in
      let go = λ (o : Option (Split Value)). answer m d cs results w outer (on_found o (λ p. exec m (invoke m d) (held w outer) rest locals (p.top ++ before) s f)) in
      let some = ap (λ (t : Option ValType). split (types_of t) vs) (sym one.leads.0) ∙ is in
      let t = taken (types_of l.carries) vs p is in
      let height : l.height ≡ length low' = omega (arith, one.height, low_length (OpenBlock res closer before rest ∷ outer) locals below, around.base_is) in
      let cuts = ap (cut l.height) (sym (append_assoc (all_bits p.below) gap low')) ∙ cut_at (all_bits p.below ++ gap) low' l.height height in
      let around' = inside (suc n) outer mine fits behind (omega (arith, count)) in
      let stands = subst (λ q. Stands around.f.body rest q (innermost outer around.fin)) (sym one.leads.1) one.rest in
      let g = goes m fm func base (depth - suc n) locals outer results (drop (suc n) labels) labels_below below cs callers d r around' callers_fit room ok rest l.target (p.top ++ before) s f stands one.rest_nests (ap go (sym some) ∙ e) in
      let values_are : all_bits p.top ++ cut l.height (all_bits p.below ++ (gap ++ low')) ≡ all_bits (p.top ++ before) ++ low outer locals below =
      ap (λ v. all_bits p.top ++ v) (cuts ∙ low_cons (OpenBlock res closer before rest) outer locals below)
      ∙ sym (append_assoc (all_bits p.top) (all_bits before) (low outer locals below))
      ∙ ap (λ v. v ++ low outer locals below) (sym (map-append bits_of p.top before)) in
      let closes : closed_by l n ≡ suc n = ap (λ b. cond b n (suc n)) one.leads.2 in
      let step = ap (λ o. where_split o (λ top low. landing l n func base depth top low labels callers s f)) (t.over (gap ++ low'))
      ∙ ap (λ v. Go func l.target base (depth - closed_by l n) v (drop (closed_by l n) labels) callers s f) values_are
      ∙ ap (λ c. Go func l.target base (depth - c) (all_bits (p.top ++ before) ++ low outer locals below) (drop c labels) callers s f) closes in
      subst (λ st. Keeps m fm st r) (sym step) g
  land n (OpenLoop closer inner before rest) outer l mine gap vs s f o is one fits at behind count e =
      let w = length locals in
      let k = OpenLoop closer inner before rest in
      let low' = low (k ∷ outer) locals below in
      let height : l.height ≡ length low' = omega (arith, one.height, low_length (k ∷ outer) locals below, around.base_is) in
      let cuts = ap (cut l.height) (sym (append_assoc (all_bits vs) gap low')) ∙ cut_at (all_bits vs ++ gap) low' l.height height in
      let around' = inside n (k ∷ outer) (l ∷ mine) (one, fits) at count in
      let body = exec m (invoke m d) (held w (k ∷ outer)) inner in
      let turn = loop_again body (exec_spends m (invoke m d) (invoke_spends m d) (held w (k ∷ outer)) inner) locals s f in
      let e' = sym (ap (λ o. answer m d cs results w outer (after_block [] before (exec m (invoke m d) (held w outer) rest) o)) turn) ∙ e in
      let g = goes m fm func base (depth - n) locals (k ∷ outer) results (drop n labels) labels_below below cs callers d r around' callers_fit room ok inner l.target [] s f one.leads.2 one.inner_nests e' in
      let closes : closed_by l n ≡ n = ap (λ b. cond b n (suc n)) one.leads.1 in
      let step = ap (λ t. where_split (split_first (length (types_of t)) (all_bits vs ++ (gap ++ low'))) (λ top low. landing l n func base depth top low labels callers s f)) one.leads.0
      ∙ ap (λ v. Go func l.target base (depth - closed_by l n) v (drop (closed_by l n) labels) callers s f) cuts
      ∙ ap (λ c. Go func l.target base (depth - c) low' (drop c labels) callers s f) closes in
      subst (λ st. Keeps m fm st r) (sym step) g

  left : (n : ℕ) (vs : List Value) (s : Store) (f : ℕ) → resume m d cs (answer_after results (Branch n locals vs s f)) ≡ r
      → Keeps m fm (returning fm func base depth (all_bits vs ++ low ks locals below) labels callers s f) r
  left zero vs s f e = leaves m fm func base depth locals ks results labels labels_below below cs callers d r around callers_fit room ok vs s f e
  left (suc n) vs s f e = absurd (ok (sym e ∙ last_resume m d cs Stuck tt))

  pub branches : (n : ℕ) (vs : List Value) (s : Store) (f : ℕ) → answer m d cs results (length locals) ks (Branch n locals vs s f) ≡ r
      → Keeps m fm (branching fm n func base depth (all_bits vs ++ low ks locals below) labels callers s f) r
  branches n vs s f e =
      let w = length locals in
      let values = all_bits vs ++ low ks locals below in
      let found = λ (o : Option Label). where_found o (λ l. where_split (split_first (length (types_of l.carries)) values) (λ top low. landing l n func base depth top low labels callers s f)) in
      ⊎_elim
      (λ lt.
      let lt' : n < length around.mine = omega (arith, around.depth_is) in
      let a = lands around.f.body around.fin (base + w) ks n around.mine around.fits lt' in
      let test = lt-ltb n depth lt in
      let get = ap (λ ls. slice_get ls n) around.labels_are ∙ get_front around.mine labels_below n a.label a.at in
      let e' = sym (ap (λ o. resume m d cs (answer_after results o)) (a.same m (invoke m d) w locals vs s f)) ∙ e in
      let g = land n a.k a.outer a.label a.labels (all_bits a.skipped) vs s f (split (types_of a.label.carries) vs) refl a.fits.0 a.fits.1 a.rest a.rest_behind a.count e' in
      let low_is : low ks locals below ≡ all_bits a.skipped ++ low (a.k ∷ a.outer) locals below =
      ap (λ u. all_bits u ++ (reverse (all_bits locals) ++ below)) a.under_is
      ∙ ap (λ u. u ++ (reverse (all_bits locals) ++ below)) (map-append bits_of a.skipped (under (a.k ∷ a.outer)))
      ∙ append_assoc (all_bits a.skipped) (all_bits (under (a.k ∷ a.outer))) (reverse (all_bits locals) ++ below) in
      let step = ap (λ b. cond b (found (slice_get labels n)) (returning fm func base depth values labels callers s f)) test
      ∙ ap found get
      ∙ ap (λ l. where_split (split_first (length (types_of a.label.carries)) (all_bits vs ++ l)) (λ top low. landing a.label n func base depth top low labels callers s f)) low_is in
      subst (λ st. Keeps m fm st r) (sym step) g)
      (λ le.
      let test : nat_lt n depth ≡ false = le-ltb n depth le in
      let out = passes m (invoke m d) w around.f.body around.fin (base + w) ks n around.mine locals vs s f around.fits (omega (arith, around.depth_is)) in
      let e' : resume m d cs (answer_after results (Branch (n - length around.mine) locals vs s f)) ≡ r = ap (λ o. resume m d cs (answer_after results o)) (sym out) ∙ e in
      let step = ap (λ b. cond b (found (slice_get labels n)) (returning fm func base depth values labels callers s f)) test in
      subst (λ st. Keeps m fm st r) (sym step) (left (n - length around.mine) vs s f e'))
      (cases_lt n depth)

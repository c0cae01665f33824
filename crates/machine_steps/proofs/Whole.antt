-- A whole call: where it begins, what holds at each step, and where it ends.
use Rattle.std.proofs.Common.{◌≡◌, ◌≢◌, ℕ, zero, suc, ◌+◌, ◌*◌, ◌≤◌, List, [], ◌∷◌, ◌++◌, length, Some, refl, sym, ap, ◌∙◌, subst, arith, length-append}
use Rattle.std.specs.Prelude.{slice_get, reverse, replicate, map}
use Rattle.std.proofs.lemmas.List.{append-nil, length-reverse, length-map, length-replicate}
use Rattle.wasm_types.specs.declared.instr.ValType.{ValType}
use Rattle.wasm_types.specs.declared.instr.Instr.{Instr}
use Rattle.wasm_types.specs.declared.module.Func.{Func}
use Rattle.wasm_types.specs.declared.module.Module.{Module}
use Rattle.wasm_types.specs.Nested.{Code}
use Rattle.wasm_types.specs.Modules.{NestedModule}
use Rattle.code_specs.specs.Values.{Value, zero_of, bits_of, all_bits}
use Rattle.code_specs.specs.Stores.{Store}
use Rattle.code_specs.specs.Signatures.{Function, function_at}
use Rattle.code_specs.specs.Execution.{Answer, Returned, Trapped, Spent, Stuck, arguments_of, answer_of_function, answer_of}
use Rattle.code_specs.specs.Validity.{IsValid}
use Rattle.code_laws.specs.Answers.{Fit}
use Rattle.code_laws.specs.Kept.{LeavesBytes}
use Rattle.code_laws.proofs.Calling.{never_stuck}
use Rattle.machine_steps.specs.declared.frame.Label.{Label}
use Rattle.machine_steps.specs.declared.frame.Frame.{Frame}
use Rattle.machine_steps.specs.Steps.{Step, Go, Stop, step_of}
use Rattle.machine_steps.specs.Answers.{bits_of_answer}
use Rattle.machine_steps.specs.Rooms.{HasRoom}
use Rattle.machine_steps.proofs.Lists.{map_reverse, new_locals}
use Rattle.machine_steps.proofs.States.{OpenList, before_of, under, held, low, LabelsFit, Same, FrameFits, Waiting, CallersFit, StandsFor, Keeps, has_room, low_length}
use Rattle.machine_steps.proofs.Following.{keeps}
use Rattle.machine_steps.proofs.Measure.{AtLeast, Falls, step_falls}

-- ---- room

held_is : (n : ℕ) (ks : List OpenList) → held n ks ≡ n + length (under ks)
held_is n [] = omega arith
held_is n (k ∷ ks) = omega (arith, held_is n ks, length-append (before_of k) (under ks))

counts : (b : List Instr) (fin h : ℕ) (ks : List OpenList) (mine : List Label) → LabelsFit b fin h ks mine → length mine ≡ length ks
counts b fin h [] [] fit = refl
counts b fin h [] (l ∷ ls) fit = absurd fit
counts b fin h (k ∷ ks) [] fit = absurd fit
counts b fin h (k ∷ ks) (l ∷ ls) fit = ap suc (counts b fin h ks ls fit.1)

deep : (b : List Instr) (fin h : ℕ) (ks : List OpenList) (mine : List Label) → LabelsFit b fin h ks mine → length ks ≤ 1024
deep b fin h [] mine fit = omega arith
deep b fin h (k ∷ ks) [] fit = absurd fit
deep b fin h (k ∷ ks) (l ∷ ls) fit = omega (arith, fit.0.deep)

-- one frame over what is below it
record FrameRoom (values below : List ℕ) (labels labels_below : List Label) (depth : ℕ) : Type 0 where
  slots : length values ≤ length below + 4096
  lists : length labels ≤ length labels_below + 1024
  inside : depth ≤ length labels

frame_room : (fm : Module) (func position base depth : ℕ) (c : Code) (locals vs : List Value) (ks : List OpenList) (results : List ValType) (labels labels_below : List Label) (values below : List ℕ)
    → FrameFits fm func position base depth c locals vs ks results labels labels_below values below → held (length locals) ks + length vs ≤ 4096 → FrameRoom values below labels labels_below depth
frame_room fm func position base depth c locals vs ks results labels labels_below values below fr le =
    let a = fr.around in
    let len : length values ≡ length (all_bits vs ++ low ks locals below) = ap length fr.values_are in
    let ls : length labels ≡ length a.mine + length labels_below = ap length a.labels_are ∙ length-append a.mine labels_below in
    let n = counts a.f.body a.fin (base + length locals) ks a.mine a.fits in
    let dp = deep a.f.body a.fin (base + length locals) ks a.mine a.fits in
    record {
      slots = omega (arith, le, len, held_is (length locals) ks, length-append (all_bits vs) (low ks locals below), low_length ks locals below, length-map vs bits_of);
      lists = omega (arith, ls, n, dp);
      inside = omega (arith, a.depth_is, ls);
    }

callers_room : (fm : Module) (cs : List Waiting) (callers : List Frame) (labels : List Label) (values : List ℕ) → CallersFit fm cs callers labels values
    → (length values ≤ length callers * 4096) × (length labels ≤ length callers * 1024)
callers_room fm [] [] labels values fit = (omega (arith, ap length fit.1), omega (arith, ap length fit.0))
callers_room fm [] (fr ∷ callers) labels values fit = absurd fit
callers_room fm (c ∷ cs) [] labels values fit = absurd fit
callers_room fm (c ∷ cs) (fr ∷ callers) labels values fit =
    let rec = callers_room fm cs callers fit.0 fit.1 fit.4 in
    let one = frame_room fm fr.func fr.position fr.base fr.depth c.rest c.locals c.operands c.ks c.results labels fit.0 values fit.1 fit.2 fit.3 in
    (omega (arith, rec.0, one.slots), omega (arith, rec.1, one.lists))

pub room_is : (m : NestedModule) (fm : Module) (func position base depth : ℕ) (values : List ℕ) (labels : List Label) (callers : List Frame) (s : Store) (f : ℕ) (r : Answer Value) → r ≢ Stuck
    → StandsFor m fm func position base depth values labels callers s f r → HasRoom depth values labels callers
room_is m fm func position base depth values labels callers s f r ok x =
    let le = has_room m x.d x.cs x.results (length x.locals) x.ks (held (length x.locals) x.ks) x.code x.locals x.operands s f r ok x.answer_is in
    let one = frame_room fm func position base depth x.code x.locals x.operands x.ks x.results labels x.labels_below values x.below x.frame le in
    let rec = callers_room fm x.cs callers x.labels_below x.below x.callers_fit in
    record {
      values = omega (arith, rec.0, one.slots);
      labels = omega (arith, rec.1, one.lists);
      callers = omega (arith, x.room);
      inside = one.inside;
    }

-- ---- the beginning

fit_length : (ts : List ValType) (ns : List ℕ) → Fit ts ns → length ns ≡ length ts
fit_length [] [] h = refl
fit_length [] (n ∷ ns) h = absurd h
fit_length (t ∷ ts) [] h = absurd h
fit_length (t ∷ ts) (n ∷ ns) h = ap suc (fit_length ts ns h.1)

bits_of_arguments : (ts : List ValType) (ns : List ℕ) → length ns ≡ length ts → all_bits (arguments_of ts ns) ≡ ns
bits_of_arguments [] [] e = refl
bits_of_arguments [] (n ∷ ns) e = absurd (omega (arith, e))
bits_of_arguments (t ∷ ts) [] e = absurd (omega (arith, e))
bits_of_arguments (t ∷ ts) (n ∷ ns) e = ap (λ (l : List ℕ). n ∷ l) (bits_of_arguments ts ns (omega (arith, e)))

pub begins : (m : NestedModule) (fm : Module) → Same m fm → (i : ℕ) (fn : Function) (f : Func) (arguments values : List ℕ) (s : Store) (fuel : ℕ)
    → function_at m i ≡ Some fn → slice_get fm.funcs i ≡ Some f → Fit fn.ty.params arguments → values ≡ replicate (length f.locals) 0 ++ reverse arguments
    → StandsFor m fm i 0 0 0 values [] [] s fuel (answer_of m i arguments s fuel)
unfolding answer_of
begins m fm same i fn f arguments values s fuel is at fit values_are =
    let x = same.each i fn is in
    let mt = x.2 in
    let one : x.0 ≡ f = (let e : Some x.0 ≡ Some f = sym x.1 ∙ at in cc) in
    let others : length f.locals ≡ length fn.locals = ap (λ (g : Func). length g.locals) (sym one) ∙ ap length mt.locals in
    let vs = arguments_of fn.ty.params arguments in
    let new = reverse (reverse vs) ++ map zero_of fn.locals in
    let bits : all_bits (reverse vs) ≡ reverse arguments = map_reverse bits_of vs ∙ ap reverse (bits_of_arguments fn.ty.params arguments (fit_length fn.ty.params arguments fit)) in
    let whole : values ≡ reverse (all_bits new) ++ [] =
    values_are
    ∙ ap (λ n. replicate n 0 ++ reverse arguments) others
    ∙ ap (λ l. replicate (length fn.locals) 0 ++ l) (sym bits)
    ∙ sym (new_locals (reverse vs) fn.locals)
    ∙ sym (append-nil (reverse (all_bits new))) in
    subst (λ o. StandsFor m fm i 0 0 0 values [] [] s fuel (answer_of_function m o arguments s fuel)) (sym is) (record {
      code = fn.code;
      locals = new;
      operands = [];
      ks = [];
      results = reverse fn.ty.results;
      labels_below = [];
      below = [];
      cs = [];
      d = 255;
      frame = record {
        around = record { f = x.0; has = x.1; ty = fn.ty; typed = mt.typed; results_are = refl; fin = mt.fin; mine = []; fits = tt; labels_are = refl; depth_is = refl; base_is = refl };
        stands = mt.stands;
        nests = mt.nests;
        values_are = whole;
      };
      callers_fit = (refl, refl);
      room = refl;
      answer_is = refl;
    })

-- the arguments and the other locals of a call have room
pub first_room : (m : NestedModule) (fm : Module) → Same m fm → IsValid m → (i : ℕ) (fn : Function) (f : Func) (arguments : List ℕ)
    → function_at m i ≡ Some fn → slice_get fm.funcs i ≡ Some f → Fit fn.ty.params arguments → length f.locals + length arguments ≤ 4096
first_room m fm same valid i fn f arguments is at fit =
    let s : Store = record { bytes = []; globals = [] } in
    let values = replicate (length f.locals) 0 ++ reverse arguments in
    let x = begins m fm same i fn f arguments values s 0 is at fit refl in
    let h = room_is m fm i 0 0 0 values [] [] s 0 (answer_of m i arguments s 0) (never_stuck m valid i fn arguments s 0 is fit) x in
    omega (arith, h.values, length-append (replicate {A = ℕ} (length f.locals) 0) (reverse arguments), length-replicate (length f.locals) zero, length-reverse arguments)

-- ---- each step

bits_stuck : (r : Answer Value) → Stuck ≡ bits_of_answer r → r ≡ Stuck
bits_stuck (Returned vs s f) e = cc
bits_stuck (Trapped kind s f) e = cc
bits_stuck (Spent s) e = cc
bits_stuck Stuck e = refl

pub never_stops_stuck : (m : NestedModule) (fm : Module) → Same m fm → (func position base depth : ℕ) (values : List ℕ) (labels : List Label) (callers : List Frame) (s : Store) (f : ℕ) (r : Answer Value) → r ≢ Stuck
    → StandsFor m fm func position base depth values labels callers s f r → step_of m fm func position base depth values labels callers s f ≢ Stop Stuck
never_stops_stuck m fm same func position base depth values labels callers s f r ok x e =
    let k : Stuck ≡ bits_of_answer r = subst (λ st. Keeps m fm st r) e (keeps m fm same func position base depth values labels callers s f r ok x) in
    ok (bits_stuck r k)

-- the run's answer has as many bytes as there are now, since each step leaves so many and the run ends
leaves_bytes : (k : ℕ) (r : Answer Value) → AtLeast k (bits_of_answer r) → LeavesBytes k r
leaves_bytes k (Returned vs s f) h = h
leaves_bytes k (Trapped kind s f) h = h
leaves_bytes k (Spent s) h = h
leaves_bytes k Stuck h = h

module _ (m : NestedModule) (fm : Module) (same : Same m fm) (k : ℕ) (r : Answer Value) (ok : r ≢ Stuck) where
  none_left : (st : Step) → Falls 0 k st → Keeps m fm st r → LeavesBytes k r
  none_left (Go func position base depth values labels callers s f) h x = absurd (omega (arith, h.0))
  none_left (Stop a) h x = leaves_bytes k r (subst (AtLeast k) x h)

  falls_more : (n o : ℕ) (st : Step) → n ≤ o → Falls n k st → Falls o k st
  falls_more n o (Go func position base depth values labels callers s f) le h = (omega (arith, le, h.0), h.1)
  falls_more n o (Stop a) le h = h

  to_the_end : (n : ℕ) (st : Step) → Falls n k st → Keeps m fm st r → LeavesBytes k r
  to_the_end zero st h x = none_left st h x
  to_the_end (suc n) (Stop a) h x = leaves_bytes k r (subst (AtLeast k) x h)
  to_the_end (suc n) (Go func position base depth values labels callers s f) h x =
      let inside = (room_is m fm func position base depth values labels callers s f r ok x).inside in
      to_the_end n (step_of m fm func position base depth values labels callers s f)
      (falls_more (2 * f + (length labels + length callers)) n (step_of m fm func position base depth values labels callers s f) (omega (arith, h.0)) (step_falls m fm k s h.1 func position base depth values labels callers f inside))
      (keeps m fm same func position base depth values labels callers s f r ok x)

pub bytes_stay : (m : NestedModule) (fm : Module) → Same m fm → (st : Step) (k n : ℕ) (r : Answer Value) → r ≢ Stuck → Falls n k st → Keeps m fm st r → LeavesBytes k r
bytes_stay m fm same st k n r ok h x = to_the_end m fm same k r ok n st h x

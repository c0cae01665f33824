use Rattle.std.proofs.Common.{arith, ap, sym, ◌∙◌, ◌≡◌, length, ◌<◌, ◌-◌, ◌++◌, replicate, ◌∷◌, ◌+◌, List}
use Rattle.machine_steps.specs.declared.frame.Frame.{Frame}
use Rattle.machine_steps.specs.Steps.{Go}
use Rattle.wasm_machine.proofs.Calls.{goes_on}
use Rattle.wasm_machine.proofs.stack.Stack.call.Goals as goal

pub overflow_sub-base : goal.overflow_sub-base
overflow_sub-base c =
    let k = c.args.self.now in
    let room : length k.callers < 255 = omega (arith, c.if-len-ge255.false, c.len.ensures.len) in
    let on = goes_on c.args.parts.now c.args.index k.func k.position k.base k.depth k.values k.labels k.callers c.func_at-func.result.now
    c.type_at.result.now c.func_at-func.ensures c.type_at.ensures room c.requires.fine.0 c.requires.fine.1 c.requires.fine.2 in
    omega (arith, on.fits, c.len-2.ensures.len, ap length c.as_slice-params.ensures)

pub returns : goal.returns
returns c = λ s fuel.
    let k = c.args.self.now in
    let f = c.func_at-func.result.now in
    let t = c.type_at.result.now in
    let fr : Frame = record { func = k.func; position = k.position + 1; base = k.base; depth = k.depth } in
    let room : length k.callers < 255 = omega (arith, c.if-len-ge255.false, c.len.ensures.len) in
    let on = goes_on c.args.parts.now c.args.index k.func k.position k.base k.depth k.values k.labels k.callers f t c.func_at-func.ensures
    c.type_at.ensures room c.requires.fine.0 c.requires.fine.1 c.requires.fine.2 in
    let base : length k.values - length t.params ≡ c.len-2.result - length c.as_slice-params.result.now = omega
    (arith, c.len-2.ensures.len, ap length c.as_slice-params.ensures) in
    on.is s fuel
    ∙ ap (λ n. Go c.args.index 0 n 0 (replicate (length f.locals) 0 ++ k.values) k.labels (fr ∷ k.callers) s fuel) base
    ∙ ap (λ (n : List _). Go c.args.index 0 (c.len-2.result - length c.as_slice-params.result.now) 0 (replicate (length n) 0 ++ k.values)
    k.labels (fr ∷ k.callers) s fuel) (sym c.as_slice.ensures)
    ∙ ap (λ v. Go c.args.index 0 (c.len-2.result - length c.as_slice-params.result.now) 0 v k.labels (fr ∷ k.callers) s fuel)
    (sym c.push_zeros.ensures)
    ∙ ap (λ fs. Go c.args.index 0 (c.len-2.result - length c.as_slice-params.result.now) 0 c.push_zeros.new.values k.labels fs s fuel)
    (sym c.push.ensures)

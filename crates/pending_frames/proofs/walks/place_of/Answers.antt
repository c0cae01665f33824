use Rattle.std.proofs.Common.{◌≢◌, ◌∙◌, ap, sym, subst, Option}
use Rattle.bus_specs.specs.Bus.{Request}
use Rattle.index_list.specs.Many.{list_at}
use Rattle.pending_frames.specs.Kept.{HasCome}
use Rattle.pending_frames.proofs.Steps.{standing, placed_here, request_is, goes_on, nearer}
use Rattle.pending_frames.proofs.walks.place_of.Goals as goal

pub get-requires : goal.get-requires
get-requires c =
    let lists = c.args.lists.now.lists in
    let node = c.args.node in
    let come = subst (λ (o : Option _). HasCome (list_at lists node) o (λ r. r.number ≢ c.args.number)) c.in-Some.is c.loop-at.invariant in
    placed_here lists c.requires.kept node (λ r. r.number ≢ c.args.number) c.in-Some.place come

pub returns-then-number-clause-found : goal.returns-then-number-clause-found
returns-then-number-clause-found c =
    let lists = c.args.lists.now.lists in
    let node = c.args.node in
    let come = subst (λ (o : Option _). HasCome (list_at lists node) o (λ r. r.number ≢ c.args.number)) c.in-Some.is c.loop-at.invariant in
    let stands = standing lists c.requires.kept node (λ r. r.number ≢ c.args.number) c.in-Some.place come in
    let is = request_is lists c.requires.kept node (λ r. r.number ≢ c.args.number) c.in-Some.place come c.get.result.now c.get.ensures in
    record {
      request = stands.request;
      among = stands.among;
      sought = ap (λ (r : Request). r.number) is ∙ sym c.number.ensures ∙ c.if-number.true;
    }

pub next-at-requires : goal.next-at-requires
next-at-requires c =
    let lists = c.args.lists.now.lists in
    let node = c.args.node in
    let come = subst (λ (o : Option _). HasCome (list_at lists node) o (λ r. r.number ≢ c.args.number)) c.in-Some.is c.loop-at.invariant in
    placed_here lists c.requires.kept node (λ r. r.number ≢ c.args.number) c.in-Some.place come

pub loop-at-smaller : goal.loop-at-smaller
loop-at-smaller c =
    let lists = c.args.lists.now.lists in
    let node = c.args.node in
    let come = subst (λ (o : Option _). HasCome (list_at lists node) o (λ r. r.number ≢ c.args.number)) c.in-Some.is c.loop-at.invariant in
    rw c.in-Some.is
    (nearer lists c.requires.kept node (λ r. r.number ≢ c.args.number) c.in-Some.place come c.next-at.result c.next-at.ensures)

pub loop-at-preserved : goal.loop-at-preserved
loop-at-preserved c =
    let lists = c.args.lists.now.lists in
    let node = c.args.node in
    let come = subst (λ (o : Option _). HasCome (list_at lists node) o (λ r. r.number ≢ c.args.number)) c.in-Some.is c.loop-at.invariant in
    let is = request_is lists c.requires.kept node (λ r. r.number ≢ c.args.number) c.in-Some.place come c.get.result.now c.get.ensures in
    goes_on lists c.requires.kept node (λ r. r.number ≢ c.args.number) c.in-Some.place come c.next-at.result
    (λ e. c.if-number.false (c.number.ensures ∙ (sym (ap (λ (r : Request). r.number) is) ∙ e))) c.next-at.ensures

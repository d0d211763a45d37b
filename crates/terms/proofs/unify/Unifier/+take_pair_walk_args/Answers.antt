use Rattle.std.proofs.Common.{rules, ◌≡◌, ◌∙◌, sym, ap, Ok, Err}
use Rattle.terms.specs.declared.unify.Taken.TheVariants.{Bind, Arguments}
use Rattle.terms.specs.Unify.{look_of}
use Rattle.terms.proofs.Cycle.{took_spent, took_stop, took_same, took_bind, took_args, walk_done, walk_stop, walk_on}
use Rattle.terms.proofs.unify.Unifier.+take_pair_walk_args.Goals as goal

pub take_pair-returns-then-self-eq0-clause-took : goal.take_pair-returns-then-self-eq0-clause-took
take_pair-returns-then-self-eq0-clause-took t c = search took_spent

pub take_pair-returns-in_err-look-clause-took : goal.take_pair-returns-in_err-look-clause-took
take_pair-returns-in_err-look-clause-took t c =
    let e : c.from_residual.result ≡ Err c.in_err-look.field-0.0 = search rules in
    rw e (took_stop _ _ _ _ _ _ _ _ c.if-self-eq0.false _ (sym (c.in_err-look.was) ∙ c.look.ensures))

pub take_pair-returns-in-Same-clause-took : goal.take_pair-returns-in-Same-clause-took
take_pair-returns-in-Same-clause-took t c = took_same _ _ _ _ _ _ _ _ c.if-self-eq0.false (sym (c.in_ok-look.was ∙ ap Ok c.in-Same.is) ∙ c.look.ensures)

pub take_pair-returns-in-Bind-clause-took : goal.take_pair-returns-in-Bind-clause-took
take_pair-returns-in-Bind-clause-took t c =
    let e : Ok (Bind c.in-Bind.s c.in-Bind.t) ≡ look_of _ _ c.args.l c.args.r = sym (c.in_ok-look.was ∙ ap Ok c.in-Bind.is) ∙ c.look.ensures in
    search (took_bind, c.if-self-eq0.false, e)

pub take_pair-returns-in-Arguments-clause-took : goal.take_pair-returns-in-Arguments-clause-took
take_pair-returns-in-Arguments-clause-took t c =
    let e : Ok (Arguments c.in-Arguments.a c.in-Arguments.b c.in-Arguments.m) ≡ look_of _ _ c.args.l c.args.r = sym (c.in_ok-look.was ∙ ap Ok c.in-Arguments.is) ∙ c.look.ensures in
    search (took_args, c.if-self-eq0.false, e)

pub walk_args-returns-in_err-take_pair-clause-took :
    goal.walk_args-returns-in_err-take_pair-clause-took
walk_args-returns-in_err-take_pair-clause-took t c =
    let e : c.from_residual.result ≡ Err c.in_err-take_pair.field-0.0 = search rules in
    rw e (search (walk_stop, c.in_err-take_pair.was, c.take_pair.ensures.took))

pub walk_args-returns-in_ok-take_pair-clause-took :
    goal.walk_args-returns-in_ok-take_pair-clause-took
walk_args-returns-in_ok-take_pair-clause-took t c = search (walk_on, c.argument-r.ensures, c.argument-l.ensures, c.if-i-m.true, c.in_ok-take_pair.was, c.take_pair.ensures.stays.n)

pub walk_args-returns-else-i-m-clause-took : goal.walk_args-returns-else-i-m-clause-took
walk_args-returns-else-i-m-clause-took t c = search walk_done

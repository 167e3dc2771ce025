use Rattle.std.proofs.Common.{false, IsTrue, refl}
use Rattle.land_fraction.specs.declared.lists.Whole.TheVariants.{Yes, No, TooFine}
use Rattle.land_fraction.proofs.Wholes.{the_wholeness, whole_at, not_whole_at}
use Rattle.land_fraction.proofs.lists.is_whole.Goals as goal

pub returns-in-None-clause-value : goal.returns-in-None-clause-value
returns-in-None-clause-value c = the_wholeness c.args.shares.now TooFine c.in-None.ensures.meaning

pub returns-in-Some-clause-value : goal.returns-in-Some-clause-value
returns-in-Some-clause-value c =
    let all = c.in-Some.ensures.meaning in
    the_wholeness c.args.shares.now Yes (whole_at c.in-Some.multiple c.args.shares.now all.0 all.1 (c.if-has_all_parts.ensures.0 refl))

pub returns-in-Some-2-clause-meaning : goal.returns-in-Some-2-clause-meaning
returns-in-Some-2-clause-meaning c =
    let all = c.in-Some.ensures.meaning in
    not_whole_at c.in-Some.multiple c.args.shares.now all.0 all.1 (λ every. let wrong : IsTrue false = c.if-has_all_parts.ensures.1 every in cc)

pub returns-in-Some-2-clause-value : goal.returns-in-Some-2-clause-value
returns-in-Some-2-clause-value c = the_wholeness c.args.shares.now No (returns-in-Some-2-clause-meaning c)

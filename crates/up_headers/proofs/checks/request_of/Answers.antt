use Rattle.up_headers.proofs.Routing.{chosen}
use Rattle.up_headers.proofs.checks.request_of.Goals as goal

pub returns-in_default-clause-answer : goal.returns-in_default-clause-answer
returns-in_default-clause-answer c =
    chosen c.args.message c.args.max_size c.in_ok-verb.verb c.route.result c.in_ok-verb.ensures.0 c.in_ok-verb.ensures.1 c.in_default.not-Options c.route.ensures.answer

use Rattle.elab_overrides.proofs.GivenValues.{connection, read_where}
use Rattle.elab_overrides.proofs.given.with_connection.Goals as goal

pub returns-in-Some : goal.returns-in-Some
returns-in-Some g c = λ known before w env h.
    let of = c.in-Some.of in
    connection known c.args.value.now of c.as_slice.result.now before w c.with_value.result c.in-Some.is c.as_slice.ensures
    (c.with_value.ensures before w _ h (read_where (g.N.Names.environment c.args.names.now) known of c.read.result env c.read.ensures))

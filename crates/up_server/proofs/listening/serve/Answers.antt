use Rattle.up_server.proofs.listening.serve.Goals as goal

pub returns : goal.returns
returns g c = c.keep_serving.ensures

use Rattle.ecsplay.proofs.hosting.host.Goals as goal

pub returns : goal.returns
returns g c = record { result = c.play-played.result; played = c.play-played.ensures; ends = c.status_of.ensures }

use Rattle.http_server.proofs.Theorems.{always_served}
use Rattle.wh_front.proofs.serving.serve_front.Goals as goal

pub returns-clause-served : goal.returns-clause-served
returns-clause-served g c = always_served c.serve.new.connection

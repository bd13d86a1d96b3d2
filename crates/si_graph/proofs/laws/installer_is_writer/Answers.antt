use Rattle.si_graph.proofs.Installers.{installer_is_writer}
use Rattle.si_graph.proofs.laws.installer_is_writer.Goals as goal

pub returns : goal.returns
returns c = installer_is_writer c.model_laws.ensures

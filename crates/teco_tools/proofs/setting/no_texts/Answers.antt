use Rattle.teco_tools.proofs.Settings.{no_text}
use Rattle.teco_tools.proofs.setting.no_texts.Goals as goal

pub returns-clause-all : goal.returns-clause-all
returns-clause-all c = no_text 36

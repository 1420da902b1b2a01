use Rattle.teco_expansion.proofs.ShortTexts.{found_text_short, found_second_short}
use Rattle.teco_expansion.proofs.reading.read_element.Goals as goal

pub returns-clause-text_within : goal.returns-clause-text_within
returns-clause-text_within c = found_text_short c.args.text.now c.args.at c.element.result c.element.ensures.read

pub returns-clause-second_within : goal.returns-clause-second_within
returns-clause-second_within c = found_second_short c.args.text.now c.args.at c.element.result c.element.ensures.read

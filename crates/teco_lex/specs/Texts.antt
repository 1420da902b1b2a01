use Rattle.teco_lex.specs.declared.texts.TextsRead.{TextsRead}
use Rattle.teco_model.specs.Element as model

-- the texts that were read, as the definition has them
abbrev pub texts_seen : TextsRead → model.TextsRead
texts_seen t = record { text = t.text.now; second = t.second.now; rest = t.rest.now }

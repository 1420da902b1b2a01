use Rattle.teco_verdicts.proofs.objects.object_of.Goals as goal

pub returns : goal.returns
returns c = record {
  stated = c.in_ok-stated.stated;
  states = c.in_ok-stated.ensures;
  spelled = c.in_ok-text.ensures;
}

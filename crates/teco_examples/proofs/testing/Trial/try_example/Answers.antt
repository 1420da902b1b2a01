use Rattle.std.proofs.Common.{◌∙◌, List, ℕ, IsTrue, subst, sym}
use Rattle.teco_policy.specs.Policies.{KeepEach}
use Rattle.teco_examples.specs.Examples.{MakesAsIn}
use Rattle.teco_jobs.specs.declared.in_memory.Came.{Came}
use Rattle.teco_examples.proofs.testing.Trial.try_example.Goals as goal

pub returns-in_ok-kept-in-Text : goal.returns-in_ok-kept-in-Text
returns-in_ok-kept-in-Text g c = λ yes.
    let both = c.are_both.ensures yes in
    record {
      subject = c.of-subject.result;
      of_entry = c.of-subject.ensures.entry;
      in_case = c.of-subject.ensures.case;
      made = c.in-Text.made;
      makes = subst (λ (it : Came). MakesAsIn c.args.self.now.sourced.now.library c.of-subject.result c.args.example.now
          c.args.example.now.before.items it) c.in-Text.is
          (subst (λ (it : List ℕ). MakesAsIn c.args.self.now.sourced.now.library c.of-subject.result
          c.args.example.now it c.in_ok-made.field-0) c.deref.ensures.value c.in_ok-made.ensures);
      wanted = sym c.deref-in-Text-2.ensures.value ∙ c.in_ok-wanted-in-Text.ensures both.0
          ∙ c.deref-in-Text.ensures.value;
      kept = subst (λ (it : List ℕ). KeepEach c.args.example.now.policies.items c.args.example.now.before.items it)
          c.deref-in-Text-3.ensures.value (c.in_ok-kept-in-Text.ensures both.1);
    }

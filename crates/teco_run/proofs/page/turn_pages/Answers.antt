use Rattle.teco_run.proofs.page.turn_pages.Goals as goal

pub returns-in-Yank-clause-answers : goal.returns-in-Yank-clause-answers
returns-in-Yank-clause-answers g c frame = rw c.in-Yank.is (c.yank.ensures.answers frame)

pub returns-in-Append-clause-answers : goal.returns-in-Append-clause-answers
returns-in-Append-clause-answers g c frame = rw c.in-Append.is (c.append.ensures.answers frame)

pub returns-in-Next-clause-answers : goal.returns-in-Next-clause-answers
returns-in-Next-clause-answers g c frame = rw c.in-Next.is (c.write_pages.ensures.answers frame)

pub returns-in-Write-clause-answers : goal.returns-in-Write-clause-answers
returns-in-Write-clause-answers g c frame = rw c.in-Write.is (c.write_pages-in-Write.ensures.answers frame)

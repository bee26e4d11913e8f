use Rattle.run_picture.proofs.PathLaws.{paths_before, words_after}
use Rattle.run_picture.proofs.document.page.Goals as goal

pub returns-clause-paths : goal.returns-clause-paths
returns-clause-paths c =
    let rows = c.args.drawn.now.rows.items in
    paths_before c.append-2.new.self c.append-4.new.self c.deadlock_content.result rows c.append-4.ensures
    (paths_before c.add_plot-2.new.page c.append-2.new.self c.front.result rows c.append-2.ensures (c.add_plot-2.ensures rows c.rows.ensures))

pub returns-clause-sentence : goal.returns-clause-sentence
returns-clause-sentence c = words_after c.append-2.new.self c.append-4.new.self c.deadlock_content.result c.args.sentence.now c.append-4.ensures c.deadlock_content.ensures

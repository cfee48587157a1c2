use Rattle.std.proofs.Common.{◌∙◌}
use Rattle.commit_book.proofs.News.{view_news}
use Rattle.commit_book.proofs.book.Book.view.Goals as goal

pub returns-clause-news : goal.returns-clause-news
returns-clause-news c =
    c.of_vec.ensures
    ∙ c.in_ok-sets.ensures.sets
    ∙ view_news c.args.self.now c.answer_view.new.self c.args.desk c.args.base c.in_ok-answered.answered.reply c.in_ok-answered.ensures.ok

mod EventsDone
mod Loans
mod Names
mod SessionLaws
mod Walks

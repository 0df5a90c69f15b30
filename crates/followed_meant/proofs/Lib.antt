mod CommitsRead
pub mod Meant

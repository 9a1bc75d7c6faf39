mod Common
mod Books
